-- Words of a lent memory.
--     word_in_lem                        the word at an offset, where it lies in the memory
--     of_none, of_past, of_read, of_some a word of a descriptor: none such; not in the memory; as it is read; by its offset
--     word_ways                          what the check of `word` cites
--     word_agree                         two memories with the same eight bytes have the same word there
--     lowest, lowest_more, lowest_all    the lowest bytes of a word, as one number; with one more; all eight
-- Assumes: nothing.
use Prim.Native.Nat.{ℕ, zero, suc, ◌+◌, ◌*◌, ◌%◌, ◌^◌, ◌≤◌, ◌<◌}
use native.Mathlib.Omega.{arith}
use native.Mathlib.Nat.{add-zero, mul_comm, mul-suc}
use mathlib.Core.Path.{◌≡◌, refl, sym, ◌∙◌}
use mathlib.Core.List.{List}
use borrow.Author.Tests.{le-leb, lt-leb, lt-ltb, le-ltb}
use lib.Arith.{digits_lt}
use lib.Bits.{bit_or, or_shifted_r}
use lib.ListN.{length}
use lib.Pow.{pow-add, shl_exact}
use mir.Syntax.{w8}
use mir.Val.{Fits}
use Rattle.memory_image.specs.Words.{bytes, word, word_in, word_of}

module _ (memory : List ℕ) (offset : ℕ) where
  word_past : length memory < offset + 8 → 0 ≡ word_in memory offset
  unfolding word_in
  word_past past = simp (lt-leb _ _ past)

  pub word_in_lem : offset + 8 ≤ length memory → word_in memory offset ≡ word (bytes memory) offset
  unfolding word_in
  word_in_lem fits = simp (le-leb _ _ fits)

module _ (memory : List ℕ) (place k : ℕ) where
  pub of_none : 8 ≤ k → 0 ≡ word_of memory place k
  unfolding word_of
  of_none past = simp (le-ltb _ _ past)

  pub of_some : k < 8 → word_in memory (place + 8 * k) ≡ word_of memory place k
  unfolding word_of
  of_some few = simp (lt-ltb _ _ few)

  pub of_past : k < 8 → length memory < place + 8 * k + 8 → 0 ≡ word_of memory place k
  of_past few past = word_past memory (place + 8 * k) past ∙ of_some few

  pub of_read : k < 8 → place + 8 * k + 8 ≤ length memory → {r : ℕ} → r ≡ word (bytes memory) (place + 8 * k) → r ≡ word_of memory place k
  of_read few fits is = is ∙ sym (word_in_lem memory (place + 8 * k) fits) ∙ of_some few

-- the n lowest bytes of the word at an offset, as one number
abbrev pub lowest : (ℕ → ℕ) → ℕ → ℕ → ℕ
lowest f at zero = 0
lowest f at (suc n) = f (at + n) * 2 ^ (8 * n) + lowest f at n

lowest_word : (f : ℕ → ℕ) (at : ℕ) → lowest f at 8 ≡ word f at
unfolding word
lowest_word f at = rw (add-zero at) (omega arith)

lowest_agree : (f g : ℕ → ℕ) (at n : ℕ) → ((i : ℕ) → at ≤ i → i < at + n → f i ≡ g i) → lowest f at n ≡ lowest g at n
lowest_agree f g at zero same = refl
lowest_agree f g at (suc n) same =
    rw (same (at + n) (omega arith) (omega arith), lowest_agree f g at n (λ i low high. same i low (omega arith)))

pub word_agree :
    (f g : ℕ → ℕ) (from to x : ℕ) → ((i : ℕ) → from ≤ i → i < to → f i ≡ g i) → from ≤ x → x + 8 ≤ to → word f x ≡ word g x
word_agree f g from to x same low high =
    sym (lowest_word f x) ∙ lowest_agree f g x 8 (λ i below above. same i (omega arith) (omega arith)) ∙ lowest_word g x

module _ (memory : List ℕ) (at n w : ℕ) (is : w ≡ lowest (bytes memory) at n) where
  pub lowest_all : n ≤ 8 → 8 ≤ n → w ≡ word (bytes memory) at
  lowest_all most least = let all : n ≡ 8 = omega arith in rw (is, all) (lowest_word (bytes memory) at)

  pub lowest_more :
      ((i : ℕ) → Fits w8 (bytes memory i)) → n < 8 → bit_or w (bytes memory (at + n) * 2 ^ (8 * n) % 2 ^ 64) ≡ lowest (bytes memory) at (suc n)
  lowest_more byte few =
      rw (is, shl_exact 8 (8 * n) 64 (byte (at + n)).fits (omega arith)) (or_shifted_r (bytes memory (at + n)) (8 * n) (lowest (bytes memory) at n) (below n))
    where
      below : (n : ℕ) → lowest (bytes memory) at n < 2 ^ (8 * n)
      below zero = omega arith
      below (suc n) = rw (mul-suc 8 n, pow-add 2 (8 * n) 8, mul_comm (2 ^ (8 * n)) 256) (digits_lt (byte (at + n)).fits (below n))

pub ruleset word_ways = (of_none, of_past, of_read)
