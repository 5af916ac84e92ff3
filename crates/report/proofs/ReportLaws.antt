-- A slot's line, and the report as a whole: one law for each way out.
--     no_line, kept_line, no_request       a slot's line
--     report_malformed, report_short, header_room, lines_room, report_whole  the report
-- Assumes: nothing.
use Rattle.answers.specs.declared.refusals.Refusal.TheVariants as refusal
use Rattle.std.specs.Prelude.{Err, None, Ok, Option, Some}
use Prim.Native.Nat.{ℕ, ◌+◌, ◌-◌, ◌≤◌, ◌<◌}
use native.Mathlib.Omega.{arith}
use mathlib.Core.Path.{◌≡◌, sym, ap, ◌∙◌}
use mathlib.Core.Bool.{Bool, true, false}
use mathlib.Core.List.{List, ◌++◌}
use borrow.Author.Tests.{eq-eqb, ne_eqb, lt-ltb, le-ltb}
use lib.ListN.{length, length-append}
use Rattle.ids.specs.Packing.{unpacked}
use Rattle.ids.specs.declared.Request.{Request}
use Rattle.registers.specs.declared.Registers.{Registers}
use Rattle.answers.specs.declared.Outcome.{Outcome}
use Rattle.answer_words.specs.AnswerWords.{outcome_of}
use Rattle.book_words.specs.Layout.{slots_of, registers_of, key_at, block_at}
use Rattle.book_words.specs.Malformed.{refusal7}
use Rattle.placed.specs.Placed.{placed}
use Rattle.placed.proofs.PlacedLaws.{placed_length, placed_then}
use Rattle.report_cells.specs.Cells.{line_text}
use Rattle.report_cells.specs.declared.Line.TheVariants as line
use Rattle.report.specs.Report.{line_at, line_for, lines_from, report_text, report_says, Reported, Put}

module _ (ws : List ℕ) (i : ℕ) where
  pub no_line : key_at ws i ≡ 0 → line.Nothing ≡ line_at ws i
  unfolding line_at
  no_line is = simp (eq-eqb _ _ is)

  module _ (held : key_at ws i ≡ 0 → ⊥) {u : Option Request} (said : u ≡ unpacked (key_at ws i - 1)) where
    pub no_request : u ≡ None → line.Nothing ≡ line_at ws i
    unfolding line_at line_for
    no_request is = simp (ne_eqb _ _ held, ← said, is)

    pub kept_line :
        {asked : Request} {r : Registers} {block : List ℕ} {o : Outcome} → u ≡ Some asked → r ≡ registers_of ws
        → block ≡ block_at ws i → o ≡ outcome_of block
        → line.Kept (record { slot = i; registers = r; request = asked; outcome = o }) ≡ line_at ws i
    unfolding line_at line_for
    kept_line is regs words out = simp (ne_eqb _ _ held, ← said, is, out, words, regs)

module _ (ws : List ℕ) (q : List ℕ) {bad : Bool} (said : bad ≡ refusal7 ws) where
  pub report_malformed : bad ≡ true → Reported ws q (Err refusal.Malformed) q
  unfolding report_says
  report_malformed is = let e : refusal7 ws ≡ true = sym said ∙ is in record { result = simp e; buffer = simp e }

  module _ (is : bad ≡ false) {size : ℕ} (counted : size ≡ length (report_text ws)) where
    pub report_short : length q < size → Reported ws q (Err refusal.Room) q
    unfolding report_says
    report_short short =
        let e : refusal7 ws ≡ false = sym said ∙ is in
        let l : length q < length (report_text ws) = omega arith in
        record { result = simp (e, lt-ltb _ _ l); buffer = simp (e, lt-ltb _ _ l) }

    -- there is room for the header, and after it for the slots' lines
    summed : size ≡ length (line_text line.Header) + length (lines_from ws (slots_of ws) 0)
    unfolding report_text
    summed = counted ∙ length-append (line_text line.Header) (lines_from ws (slots_of ws) 0)

    module _ (room : size ≤ length q) where
      pub header_room : 0 + length (line_text line.Header) ≤ length q
      header_room = let l = summed in omega arith

      module _ {start : ℕ} {mid : List ℕ} (head : Put (line_text line.Header) q 0 start mid) where
        pub lines_room : start + length (lines_from ws (slots_of ws) 0) ≤ length mid
        lines_room =
            let l = summed in
            let p = head.place in
            let m : length mid ≡ length q = ap length head.buffer ∙ placed_length q 0 (line_text line.Header) header_room in
            omega arith

        pub report_whole :
            {to : ℕ} {after : List ℕ} → Put (lines_from ws (slots_of ws) 0) mid start to after → Reported ws q (Ok size) after
        unfolding report_says report_text
        report_whole {to} {after} lines =
            let e : refusal7 ws ≡ false = sym said ∙ is in
            let l : length (line_text line.Header ++ lines_from ws (slots_of ws) 0) ≤ length q = rw counted at room in
            let put : after ≡ placed q 0 (line_text line.Header ++ lines_from ws (slots_of ws) 0)
            = lines.buffer
            ∙ ap (λ (k : List ℕ). placed k start (lines_from ws (slots_of ws) 0)) head.buffer
            ∙ placed_then q 0 (line_text line.Header) header_room (lines_from ws (slots_of ws) 0) start head.place in
            record { result = simp (e, le-ltb _ _ l, counted); buffer = put ∙ simp (e, le-ltb _ _ l) }
