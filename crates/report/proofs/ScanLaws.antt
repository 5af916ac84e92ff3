-- One step of each text that is defined by what is left of it, under the test that the code makes; and lengths.
--     cells_end, cells_step                      the cells of a line
--     lines_end, lines_step                      the lines of the slots
--     cells_summed, cells_done, lines_summed, lines_done  the loops that count bytes
--     whole_line, line_counted, text_counted     at the start of a loop
--     text_spelled                               a cell's text
--     cells_length, columns_few, few_more        how many bytes and cells there are
-- Assumes: nothing.
use Prim.Native.Nat.{ℕ, ◌+◌, ◌-◌, ◌*◌, ◌≤◌, ◌<◌}
use native.Mathlib.Omega.{arith}
use native.Mathlib.Nat.{sub-zero, zero-add}
use mathlib.Core.Path.{◌≡◌, sym, ap, ◌∙◌}
use mathlib.Core.List.{List, [], ◌∷◌, ◌++◌}
use lib.ListN.{get_or, length, length-append}
use Rattle.number_laws.proofs.Scans.{left_none, left_one}
use Rattle.book_words.specs.Layout.{slots_of}
use Rattle.placed.specs.From.{from}
use Rattle.placed.proofs.FromLaws.{values_length}
use Rattle.report_cells.specs.Text.{Spells, cell_most}
use Rattle.report_cells.specs.Cells.{columns, cell_text, cells_from, columns_of, ending_of, line_text}
use Rattle.report_cells.specs.declared.Cell.{Cell}
use Rattle.report_cells.specs.declared.Line.{Line}
use Rattle.report_cells.specs.declared.Line.TheVariants.{Nothing, Header, Kept}
use Rattle.report.specs.Report.{line_at, lines_from, report_text}

module _ (line : Line) (n k : ℕ) where
  pub cells_end : n ≤ k → cells_from line (n - k) k ≡ []
  unfolding cells_from
  cells_end past = rw (left_none n k past)

  pub cells_step :
      k < n → cells_from line (n - k) k ≡ (cell_text line k ++ (ending_of k ∷ [])) ++ cells_from line (n - (k + 1)) (k + 1)
  unfolding cells_from
  cells_step more = rw (left_one n k more)

module _ (ws : List ℕ) (n i : ℕ) where
  pub lines_end : n ≤ i → lines_from ws (n - i) i ≡ []
  unfolding lines_from
  lines_end past = rw (left_none n i past)

  pub lines_step : i < n → lines_from ws (n - i) i ≡ line_text (line_at ws i) ++ lines_from ws (n - (i + 1)) (i + 1)
  unfolding lines_from
  lines_step more = rw (left_one n i more)

-- the text of a cell is what the cell spells
pub text_spelled : {cell : Cell} {t text : List ℕ} → Spells cell t → text ≡ from cell.byte cell.count 0 → text ≡ t
text_spelled s read = read ∙ s.reads

pub cells_length :
    (line : Line) (n k : ℕ) {text : List ℕ} → k < n → text ≡ cell_text line k
    → length (cells_from line (n - k) k) ≡ length text + 1 + length (cells_from line (n - (k + 1)) (k + 1))
cells_length line n k more is =
    ap length (cells_step line n k more)
    ∙ length-append (cell_text line k ++ (ending_of k ∷ [])) _
    ∙ ap (λ (m : ℕ). m + length (cells_from line (n - (k + 1)) (k + 1))) (length-append (cell_text line k) (ending_of k ∷ []))
    ∙ ap (λ (t : List ℕ). length t + 1 + length (cells_from line (n - (k + 1)) (k + 1))) (sym is)

few_of : (line : Line) → columns_of line ≤ columns
unfolding columns_of
few_of Nothing = omega arith
few_of Header = omega arith
few_of (Kept e) = omega arith

pub columns_few : (line : Line) {n : ℕ} → n ≡ columns_of line → n ≤ columns
columns_few line is = rw is (few_of line)

-- all of a line is left at its start, and nothing of it at its end
pub whole_line : (line : Line) {n : ℕ} → n ≡ columns_of line → cells_from line (n - 0) 0 ≡ line_text line
unfolding line_text
whole_line line {n} is = ap (λ (m : ℕ). cells_from line m 0) (sub-zero n ∙ is)

pub line_counted : (line : Line) {n : ℕ} → n ≡ columns_of line → 0 + length (cells_from line (n - 0) 0) ≡ length (line_text line)
line_counted line is = rw zero-add (ap length (whole_line line is))

-- the header is counted first
pub text_counted :
    (ws : List ℕ) {m n : ℕ} → m ≡ length (line_text Header) → n ≡ slots_of ws → m + length (lines_from ws (n - 0) 0) ≡ length (report_text ws)
unfolding report_text
text_counted ws {m} {n} long is =
    ap (λ (k : ℕ). k + length (lines_from ws (n - 0) 0)) long
    ∙ ap (λ (k : ℕ). length (line_text Header) + length (lines_from ws k 0)) (sub-zero n ∙ is)
    ∙ sym (length-append (line_text Header) (lines_from ws (slots_of ws) 0))

-- a sum and the length of what is left are the length of it all
module _ (line : Line) (n k sum : ℕ) {all : ℕ} (so_far : sum + length (cells_from line (n - k) k) ≡ all) where
  pub cells_summed :
      {cell : Cell} {text : List ℕ} → k < n → Spells cell (cell_text line k) → text ≡ from cell.byte cell.count 0
      → sum + (length text + 1) + length (cells_from line (n - (k + 1)) (k + 1)) ≡ all
  cells_summed more s read = let l = cells_length line n k more (text_spelled s read) in omega arith

  pub cells_done : n ≤ k → sum ≡ all
  cells_done past = let l : length (cells_from line (n - k) k) ≡ 0 = ap length (cells_end line n k past) in omega arith

module _ (ws : List ℕ) (n i sum : ℕ) {all : ℕ} (so_far : sum + length (lines_from ws (n - i) i) ≡ all) where
  pub lines_summed :
      {m : ℕ} → i < n → {line : Line} → line ≡ line_at ws i → m ≡ length (line_text line)
      → sum + m + length (lines_from ws (n - (i + 1)) (i + 1)) ≡ all
  lines_summed more is long =
      let l = ap length (lines_step ws n i more) ∙ length-append (line_text (line_at ws i)) (lines_from ws (n - (i + 1)) (i + 1)) in
      let e = long ∙ ap (λ (k : Line). length (line_text k)) is in
      omega arith

  pub lines_done : n ≤ i → sum ≡ all
  lines_done past = let l : length (lines_from ws (n - i) i) ≡ 0 = ap length (lines_end ws n i past) in omega arith

-- a cell and its ending have at most cell_most + 1 bytes
pub few_more :
    (sum k : ℕ) {cell : Cell} {t text : List ℕ} → Spells cell t → text ≡ from cell.byte cell.count 0 → sum ≤ (cell_most + 1) * k
    → sum + (length text + 1) ≤ (cell_most + 1) * (k + 1)
few_more sum k {cell} s read small =
    let few = s.few in
    let long = ap length read ∙ values_length (λ j. get_or cell.byte j 0) cell.count 0 in
    omega arith
