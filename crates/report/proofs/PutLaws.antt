-- What the writers' loops keep: the laws of `Left` at a line's cells and the slots' lines.
--     text_put                                         a cell's text, and the byte that ends it
--     line_starts, cell_room, cell_more, line_put      a cell of a line
--     line_room, line_more, lines_put                  a line of the slots
--     all_put                                          nothing is left
-- Assumes: nothing.
use Prim.Native.Nat.{ℕ, ◌+◌, ◌-◌, ◌≤◌, ◌<◌}
use native.Mathlib.Omega.{arith}
use mathlib.Core.Path.{◌≡◌, refl, sym, ap, ◌∙◌}
use mathlib.Core.List.{List, [], ◌∷◌, ◌++◌}
use lib.ListN.{set, length, length-append}
use borrow.Rule.Slice.PartMut.{put_mid}
use Rattle.std.proofs.lemmas.List.Edits.{paste_all}
use Rattle.std.proofs.lemmas.Slice.{put_mid-paste}
use Rattle.placed.specs.Placed.{Left, placed}
use Rattle.placed.proofs.LeftLaws.{left_all, left_room, left_more, left_placed, left_end}
use Rattle.placed.proofs.PlacedLaws.{placed_length, placed_then, set_placed}
use Rattle.placed.specs.From.{from}
use Rattle.report_cells.specs.Text.{Spells}
use Rattle.report_cells.specs.Cells.{cell_text, cells_from, columns_of, ending_of, line_text}
use Rattle.report_cells.specs.declared.Cell.{Cell}
use Rattle.report_cells.specs.declared.Line.{Line}
use Rattle.report.specs.Report.{Put, line_at, lines_from}
use Rattle.report.proofs.ScanLaws.{cells_end, cells_step, cells_length, text_spelled, lines_end, lines_step, whole_line}

-- nothing is left: all is put
pub all_put : {q all now left : List ℕ} {at to : ℕ} → Left q at all now to left → left ≡ [] → Put all q at to now
all_put so_far none = record { place = left_end so_far none; buffer = left_placed so_far none }

-- a text copied into a part of a buffer
part_put :
    (q text : List ℕ) (at : ℕ) {new : List ℕ} → at + length text ≤ length q → new ≡ text
    → put_mid at (at + length text - at) q new ≡ placed q at text
unfolding placed
part_put q text at fits is =
    put_mid-paste at (at + length text - at) q _ text (length text) is (omega arith) refl ∙ paste_all q at text (length text) refl

-- the text of a cell and the byte that ends it
pub text_put :
    (q text : List ℕ) (at e : ℕ) {new : List ℕ} → at + length text + 1 ≤ length q → new ≡ text
    → Put (text ++ (e ∷ [])) q at (at + length text + 1) (set (put_mid at (at + length text - at) q new) (at + length text) e)
text_put q text at e fits is =
    let room : at + length text ≤ length q = omega arith in
    record {
      place = let l = length-append text (e ∷ []) in omega (arith, l);
      buffer =
          rw (part_put q text at room is)
          (set_placed (placed q at text) (at + length text) e (rw (placed_length q at text room) (omega arith))
          ∙ placed_then q at text room (e ∷ []) (at + length text) refl);
    }

module _
    (line : Line) (n k : ℕ) {q all now : List ℕ} {at to : ℕ} {cell : Cell} {text : List ℕ}
    (so_far : Left q at all now to (cells_from line (n - k) k)) (more : k < n)
    (said : Spells cell (cell_text line k)) (read : text ≡ from cell.byte cell.count 0) where
  pub cell_room : to + length text + 1 ≤ length now
  cell_room =
      let room = left_room so_far in
      let l = cells_length line n k more (text_spelled said read) in
      omega arith

  pub cell_more :
      {e on : ℕ} {after : List ℕ} → e ≡ ending_of k → Put (text ++ (e ∷ [])) now to on after
      → Left q at all after on (cells_from line (n - (k + 1)) (k + 1))
  cell_more {e} ends put =
      left_more so_far (text ++ (e ∷ [])) (cells_from line (n - (k + 1)) (k + 1))
      (cells_step line n k more
      ∙ ap (λ (t : List ℕ). (t ++ (ending_of k ∷ [])) ++ cells_from line (n - (k + 1)) (k + 1)) (sym (text_spelled said read))
      ∙ ap (λ (x : ℕ). (text ++ (x ∷ [])) ++ cells_from line (n - (k + 1)) (k + 1)) (sym ends))
      put.buffer put.place

module _
    (ws : List ℕ) (n i : ℕ) {q all now : List ℕ} {at to : ℕ} {line : Line}
    (so_far : Left q at all now to (lines_from ws (n - i) i)) (more : i < n) (said : line ≡ line_at ws i) where
  split : lines_from ws (n - i) i ≡ line_text line ++ lines_from ws (n - (i + 1)) (i + 1)
  split = lines_step ws n i more ∙ ap (λ (l : Line). line_text l ++ lines_from ws (n - (i + 1)) (i + 1)) (sym said)

  pub line_room : to + length (line_text line) ≤ length now
  line_room =
      let room = left_room so_far in
      let l : length (lines_from ws (n - i) i) ≡ length (line_text line) + length (lines_from ws (n - (i + 1)) (i + 1))
      = ap length split ∙ length-append (line_text line) (lines_from ws (n - (i + 1)) (i + 1)) in
      omega arith

  pub line_more : {on : ℕ} {after : List ℕ} → Put (line_text line) now to on after → Left q at all after on (lines_from ws (n - (i + 1)) (i + 1))
  line_more put = left_more so_far (line_text line) (lines_from ws (n - (i + 1)) (i + 1)) split put.buffer put.place

pub line_starts :
    (line : Line) {n : ℕ} (at : ℕ) (q : List ℕ) → n ≡ columns_of line → at + length (line_text line) ≤ length q
    → Left q at (line_text line) q at (cells_from line (n - 0) 0)
line_starts line at q is fits = rw (whole_line line is) (left_all q at (line_text line) fits)

module _ {q all now : List ℕ} {at to : ℕ} (n k : ℕ) (past : n ≤ k) where
  pub line_put : (line : Line) → Left q at all now to (cells_from line (n - k) k) → Put all q at to now
  line_put line so_far = all_put so_far (cells_end line n k past)

  pub lines_put : (ws : List ℕ) → Left q at all now to (lines_from ws (n - k) k) → Put all q at to now
  lines_put ws so_far = all_put so_far (lines_end ws n k past)
