-- What a notice does to each word of a book.
--     struck_length, struck_else     nothing but keys changes
--     struck_key                     a key is struck exactly where the slot is touched
--     struck_block, struck_left, struck_well  after a whole notice: each block, each key that is left, a book that isn't malformed
-- Assumes: nothing.
use Prim.Native.Nat.{ℕ, zero, suc, ◌+◌, ◌-◌, ◌≤◌, ◌<◌}
use native.Mathlib.Omega.{arith}
use mathlib.Core.Path.{◌≡◌, refl, sym, ap, ◌∙◌}
use mathlib.Core.Bool.{Bool, true, false}
use mathlib.Core.List.{List, [], ◌∷◌}
use borrow.Author.Tests.{eqb-true, eqb-false}
use lib.Dec.{eqb}
use lib.ListN.{length, get_or, set, length-set}
use lib.Seq.{get_or-set_other}
use Rattle.std.specs.Prelude.{if◌then◌else◌}
use Rattle.ids.specs.Packing.{unpacked}
use Rattle.book_words.specs.Layout.{slots_most, keys_from, key_at, block_at}
use Rattle.book_words.proofs.KeptLaws.{block_same}
use Rattle.book_words.proofs.WellLaws.{Held, held_to, held_from, Well}
use Rattle.book_words.proofs.KeepsLaws.{header_same}
use Rattle.book.specs.Book.{touched, strike, struck_from}

-- a word set to 0 is 0, past the end too
set_zero : (ws : List ℕ) (k : ℕ) → get_or (set ws k 0) k 0 ≡ 0
set_zero [] k = refl
set_zero (x ∷ ws) zero = refl
set_zero (x ∷ ws) (suc k) = set_zero ws k

module _ (start size : ℕ) where
  strike_length : (ws : List ℕ) (i : ℕ) → length (strike ws start size i) ≡ length ws
  unfolding strike
  strike_length ws i = go (touched ws start size i)
    where
      go : (t : Bool) → length (if t then set ws (keys_from + i) 0 else ws) ≡ length ws
      go true = length-set ws (keys_from + i) 0
      go false = refl

  strike_else : (ws : List ℕ) (i x : ℕ) → (x ≡ keys_from + i → ⊥) → get_or (strike ws start size i) x 0 ≡ get_or ws x 0
  unfolding strike
  strike_else ws i x other = go (touched ws start size i)
    where
      go : (t : Bool) → get_or (if t then set ws (keys_from + i) 0 else ws) x 0 ≡ get_or ws x 0
      go true = get_or-set_other ws (keys_from + i) x 0 0 other
      go false = refl

  strike_block : (ws : List ℕ) (i j : ℕ) → i < slots_most → block_at (strike ws start size i) j ≡ block_at ws j
  strike_block ws i j small = block_same ws (strike ws start size i) j (λ x from to. strike_else ws i x (λ e. omega arith))

  -- whether another slot is touched stays as it was
  touched_same :
      (ws ws' : List ℕ) (i : ℕ) → key_at ws' i ≡ key_at ws i → block_at ws' i ≡ block_at ws i
      → touched ws' start size i ≡ touched ws start size i
  unfolding touched
  touched_same ws ws' i key block = rw (key, block)

  strike_at : (ws : List ℕ) (i : ℕ) → key_at (strike ws start size i) i ≡ (if touched ws start size i then 0 else key_at ws i)
  unfolding strike
  strike_at ws i = go (touched ws start size i)
    where
      go : (t : Bool) → get_or (if t then set ws (keys_from + i) 0 else ws) (keys_from + i) 0 ≡ (if t then 0 else key_at ws i)
      go true = set_zero ws (keys_from + i)
      go false = refl

  pub struck_length : (m : ℕ) (ws : List ℕ) (i : ℕ) → length (struck_from ws start size m i) ≡ length ws
  unfolding struck_from
  struck_length zero ws i = refl
  struck_length (suc m) ws i = struck_length m (strike ws start size i) (i + 1) ∙ strike_length ws i

  -- a word that is no key of the slots looked at
  pub struck_else :
      (m : ℕ) (ws : List ℕ) (i x : ℕ) → ((j : ℕ) → i ≤ j → j < i + m → x ≡ keys_from + j → ⊥)
      → get_or (struck_from ws start size m i) x 0 ≡ get_or ws x 0
  unfolding struck_from
  struck_else zero ws i x other = refl
  struck_else (suc m) ws i x other =
      struck_else m (strike ws start size i) (i + 1) x (λ j from to. other j (omega arith) (omega arith))
      ∙ strike_else ws i x (other i (omega arith) (omega arith))

  pub struck_key :
      (m : ℕ) (ws : List ℕ) (i j : ℕ) → i + m ≤ slots_most → i ≤ j → j < i + m
      → key_at (struck_from ws start size m i) j ≡ (if touched ws start size j then 0 else key_at ws j)
  unfolding struck_from
  struck_key zero ws i j room from to = absurd (omega arith)
  struck_key (suc m) ws i j room from to =
      go (eqb i j) refl (struck_key m (strike ws start size i) (i + 1) j (omega arith))
    where
      next : List ℕ
      next = strike ws start size i

      go :
          (t : Bool) → eqb i j ≡ t
          → (i + 1 ≤ j → j < i + 1 + m
          → key_at (struck_from next start size m (i + 1)) j ≡ (if touched next start size j then 0 else key_at next j))
          → key_at (struck_from next start size m (i + 1)) j ≡ (if touched ws start size j then 0 else key_at ws j)
      go true e more =
          let same : i ≡ j = eqb-true i j e in
          rw (← same)
          (struck_else m next (i + 1) (keys_from + i) (λ k low high is. omega arith) ∙ strike_at ws i)
      go false e more =
          let other : i ≡ j → ⊥ = eqb-false i j e in
          let key : key_at next j ≡ key_at ws j = strike_else ws i (keys_from + j) (λ is. other (omega arith)) in
          let touch : touched next start size j ≡ touched ws start size j = touched_same ws next j key (strike_block ws i j (omega arith)) in
          more (omega arith) (omega arith) ∙ rw (touch, key)

-- a notice taken
module _ (ws : List ℕ) (start size : ℕ) where
  after : List ℕ
  after = struck_from ws start size slots_most 0

  header : (x : ℕ) → x < keys_from → get_or after x 0 ≡ get_or ws x 0
  unfolding after
  header x small = struck_else start size slots_most ws 0 x (λ j from to is. omega arith)

  pub struck_block : (i : ℕ) → block_at (struck_from ws start size slots_most 0) i ≡ block_at ws i
  struck_block i = block_same ws _ i (λ x from to. struck_else start size slots_most ws 0 x (λ j low high is. omega arith))

  -- a key that is not struck is as it was
  pub struck_left :
      (i : ℕ) → i < slots_most → (key_at (struck_from ws start size slots_most 0) i ≡ 0 → ⊥)
      → (touched ws start size i ≡ false) × (key_at (struck_from ws start size slots_most 0) i ≡ key_at ws i)
  struck_left i small held = go (touched ws start size i) refl
    where
      is : key_at (struck_from ws start size slots_most 0) i ≡ (if touched ws start size i then 0 else key_at ws i)
      is = struck_key start size slots_most ws 0 i (omega arith) (omega arith) (omega arith)

      go :
          (t : Bool) → touched ws start size i ≡ t
          → (touched ws start size i ≡ false) × (key_at (struck_from ws start size slots_most 0) i ≡ key_at ws i)
      go true e = absurd (held (is ∙ rw e))
      go false e = (e, is ∙ rw e)

  pub struck_well : Well ws → Well (struck_from ws start size slots_most 0)
  unfolding after
  struck_well well = header_same ws after header well (λ i small. held_from after i small (slot i small))
    where
      slot : (i : ℕ) → i < slots_most → (key_at after i ≡ 0 → ⊥) → Held after i
      slot i small held =
          let key = (struck_left i small held).1 in
          let was = held_to ws i small (well.slots i small) (λ none. held (key ∙ none)) in
          record {
            inside = rw (header 0 (omega arith)) was.inside;
            request = was.request;
            is_request = ap (λ (k : ℕ). unpacked (k - 1)) key ∙ was.is_request;
            alone = λ j less same.
                was.alone j less
                (sym (struck_left j (omega arith) (λ none. held (sym same ∙ none))).1 ∙ same ∙ key);
            answer = rw (struck_block i) was.answer;
          }
