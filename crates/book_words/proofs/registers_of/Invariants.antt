-- Proof of `book_words::registers_of`: a register from its word.
-- Assumes: nothing.
use Prim.Native.Nat.{◌+◌}
use lib.ListN.{get_or}
use Rattle.placed.proofs.FilledLaws.{Filled}
use Rattle.registers.specs.Words.{register_words}
use Rattle.book_words.specs.Layout.{registers_at, low_word}
use Rattle.book_words.proofs.registers_of.Given as goal

abbrev pub invariant-loop-j : goal.invariant-loop-j
invariant-loop-j l = Filled (λ k. low_word (get_or l.book (registers_at + k) 0)) register_words l.word-items l.j
