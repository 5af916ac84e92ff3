-- What keeping an answer does to each word of a book.
--     copied_length, copied_below, copied_above, copied_at    words written from a place on
--     block_same                                              a block is read from its own words alone
--     kept_length, kept_before_lem, kept_key, kept_key_other, kept_block, kept_block_other  a slot filled
-- Assumes: nothing.
use Prim.Native.Nat.{ℕ, zero, suc, ◌+◌, ◌≤◌, ◌<◌}
use native.Mathlib.Omega.{arith}
use mathlib.Core.Path.{◌≡◌, refl, sym, ap, ◌∙◌}
use mathlib.Core.Bool.{Bool, true, false}
use mathlib.Core.List.{List}
use borrow.Author.Tests.{eqb-true, eqb-false, ltb-true, ltb-false}
use lib.Dec.{eqb, ltb}
use lib.ListN.{length, get_or, set, length-set}
use lib.Seq.{get_or-set_same, get_or-set_other}
use Rattle.placed.specs.From.{from}
use Rattle.placed.proofs.FromLaws.{values_same, values_list}
use Rattle.answers.specs.Layout.{answer_words}
use Rattle.book_words.specs.Layout.{slots_most, book_words, keys_from, blocks_from, block_from, key_at, block_at, copied, kept_at}

-- words written from a place on
pub copied_length : (m : ℕ) (ws vs : List ℕ) (b j : ℕ) → length (copied ws b vs m j) ≡ length ws
unfolding copied
copied_length zero ws vs b j = refl
copied_length (suc m) ws vs b j = copied_length m (set ws (b + j) (get_or vs j 0)) vs b (j + 1) ∙ length-set ws (b + j) (get_or vs j 0)

pub copied_below : (m : ℕ) (ws vs : List ℕ) (b j x : ℕ) → x < b + j → get_or (copied ws b vs m j) x 0 ≡ get_or ws x 0
unfolding copied
copied_below zero ws vs b j x below = refl
copied_below (suc m) ws vs b j x below =
    copied_below m (set ws (b + j) (get_or vs j 0)) vs b (j + 1) x (omega arith)
    ∙ get_or-set_other ws (b + j) x (get_or vs j 0) 0 (λ e. omega arith)

pub copied_above : (m : ℕ) (ws vs : List ℕ) (b j x : ℕ) → b + j + m ≤ x → get_or (copied ws b vs m j) x 0 ≡ get_or ws x 0
unfolding copied
copied_above zero ws vs b j x above = refl
copied_above (suc m) ws vs b j x above =
    copied_above m (set ws (b + j) (get_or vs j 0)) vs b (j + 1) x (omega arith)
    ∙ get_or-set_other ws (b + j) x (get_or vs j 0) 0 (λ e. omega arith)

pub copied_at :
    (m : ℕ) (ws vs : List ℕ) (b j x : ℕ) → j ≤ x → x < j + m → b + j + m ≤ length ws
    → get_or (copied ws b vs m j) (b + x) 0 ≡ get_or vs x 0
unfolding copied
copied_at zero ws vs b j x from to room = absurd (omega arith)
copied_at (suc m) ws vs b j x from to room = go (eqb j x) refl (copied_at m (set ws (b + j) (get_or vs j 0)) vs b (j + 1) x)
  where
    rest : List ℕ
    rest = copied (set ws (b + j) (get_or vs j 0)) b vs m (j + 1)

    go :
        (t : Bool) → eqb j x ≡ t
        → (j + 1 ≤ x → x < j + 1 + m → b + (j + 1) + m ≤ length (set ws (b + j) (get_or vs j 0)) → get_or rest (b + x) 0 ≡ get_or vs x 0)
        → get_or rest (b + x) 0 ≡ get_or vs x 0
    go true e more =
        let same : j ≡ x = eqb-true j x e in
        rw (← same)
        (copied_below m (set ws (b + j) (get_or vs j 0)) vs b (j + 1) (b + j) (omega arith)
        ∙ get_or-set_same ws (b + j) (get_or vs j 0) 0 (omega arith))
    go false e more =
        let other : j ≡ x → ⊥ = eqb-false j x e in
        more (omega arith) (omega arith) (rw length-set (omega arith))

-- a block is read from its own words
pub block_same :
    (ws ws' : List ℕ) (i : ℕ) → ((x : ℕ) → block_from i ≤ x → x < block_from i + answer_words → get_or ws' x 0 ≡ get_or ws x 0)
    → block_at ws' i ≡ block_at ws i
unfolding block_at
block_same ws ws' i same = values_same _ _ answer_words 0 (λ j low high. same (block_from i + j) (omega arith) (omega arith))

-- a slot filled
module _ (ws : List ℕ) (i key : ℕ) (block : List ℕ) (size : length ws ≡ book_words) (small : i < slots_most) where
  pub kept_length : length (kept_at ws i key block) ≡ book_words
  kept_length = copied_length answer_words (set ws (keys_from + i) key) block (block_from i) 0 ∙ length-set ws (keys_from + i) key ∙ size

  pub kept_before_lem : (x : ℕ) → x < blocks_from → (x ≡ keys_from + i → ⊥) → get_or (kept_at ws i key block) x 0 ≡ get_or ws x 0
  kept_before_lem x below other =
      copied_below answer_words (set ws (keys_from + i) key) block (block_from i) 0 x (omega arith) ∙ get_or-set_other ws (keys_from + i) x key 0 other

  pub kept_key : key_at (kept_at ws i key block) i ≡ key
  kept_key =
      copied_below answer_words (set ws (keys_from + i) key) block (block_from i) 0 (keys_from + i) (omega arith)
      ∙ get_or-set_same ws (keys_from + i) key 0 (omega arith)

  pub kept_key_other : (j : ℕ) → j < slots_most → (j ≡ i → ⊥) → key_at (kept_at ws i key block) j ≡ key_at ws j
  kept_key_other j few other = kept_before_lem (keys_from + j) (omega arith) (λ e. other (omega arith))

  pub kept_block : length block ≡ answer_words → block_at (kept_at ws i key block) i ≡ block
  unfolding block_at
  kept_block full =
      values_same _ (λ j. get_or block j 0) answer_words 0
      (λ j low high. copied_at answer_words (set ws (keys_from + i) key) block (block_from i) 0 j (omega arith) (omega arith) (rw length-set (omega arith)))
      ∙ ap (λ (m : ℕ). from block m 0) (sym full) ∙ values_list block

  pub kept_block_other : (j : ℕ) → (j ≡ i → ⊥) → block_at (kept_at ws i key block) j ≡ block_at ws j
  kept_block_other j other = block_same ws (kept_at ws i key block) j (λ x from to. go x from to (ltb j i) refl)
    where
      go :
          (x : ℕ) → block_from j ≤ x → x < block_from j + answer_words → (t : Bool) → ltb j i ≡ t
          → get_or (kept_at ws i key block) x 0 ≡ get_or ws x 0
      go x from to true e =
          let less : j < i = ltb-true j i e in
          copied_below answer_words (set ws (keys_from + i) key) block (block_from i) 0 x (omega arith)
          ∙ get_or-set_other ws (keys_from + i) x key 0 (λ e. omega arith)
      go x from to false e =
          let more : i ≤ j = ltb-false j i e in
          let past : i < j = omega arith in
          copied_above answer_words (set ws (keys_from + i) key) block (block_from i) 0 x (omega arith)
          ∙ get_or-set_other ws (keys_from + i) x key 0 (λ e. omega arith)
