-- The scans that are defined by what is left, as the code makes them.
--     first_found, first_more    the search for a key, slot by slot: i passed
--     first_position             the same in the words that are the slots' keys
--     part_all                   a test of each word of a part
--     copy_end, copy_more        the loop that copies a block
-- Assumes: nothing.
use Prim.Native.Nat.{ℕ, zero, suc, ◌+◌, ◌-◌, ◌≤◌, ◌<◌}
use native.Mathlib.Omega.{arith}
use native.Mathlib.Nat.{add-zero, zero-add}
use mathlib.Core.Path.{◌≡◌, refl, sym, ◌∙◌}
use mathlib.Core.Bool.{Bool, true, false, not, cond}
use mathlib.Core.List.{List}
use borrow.Author.Tests.{eq-eqb, ne_eqb, ltb-false}
use lib.Dec.{eqb, ltb}
use lib.ListN.{length, get_or, set, take, drop, length-drop}
use lib.Seq.{drop-cons, length-take-le}
use Rattle.std.specs.Prelude.{Option, None, Some, if◌then◌else◌}
use Rattle.std.proofs.lemmas.List.Sums.{prefix_len-le-length}
use Rattle.std.specs.List.{list_all, position, position_or_len, slice_range}
use Rattle.std.specs.Option.{unwrap_or}
use Rattle.number_laws.proofs.Scans.{left_none, left_one}
use Rattle.placed.specs.From.{all_from}
use Rattle.placed.proofs.FromLaws.{values_part, all_values}
use Rattle.book_words.specs.Layout.{slots_most, book_words, keys_from, key_at, copied}
use Rattle.book_words.specs.Malformed.{first_from}

module _ (ws : List ℕ) (x n i : ℕ) where
  first_hit : i < n → key_at ws i ≡ x → first_from ws x (n - i) i ≡ i
  unfolding first_from
  first_hit more is = rw (left_one n i more) (simp (eq-eqb _ _ is))

  first_miss : i < n → (key_at ws i ≡ x → ⊥) → first_from ws x (n - i) i ≡ first_from ws x (n - (i + 1)) (i + 1)
  unfolding first_from
  first_miss more is = rw (left_one n i more) (simp (ne_eqb _ _ is))

-- the loop of the search: i passed
module _ (ws : List ℕ) (x n : ℕ) {i : ℕ} (left : first_from ws x n 0 ≡ first_from ws x (n - i) i) where
  pub first_found : i < n → key_at ws i ≡ x → i ≡ first_from ws x n 0
  first_found more is = sym (left ∙ first_hit ws x n i more is)

  pub first_more : i < n → (key_at ws i ≡ x → ⊥) → first_from ws x n 0 ≡ first_from ws x (n - (i + 1)) (i + 1)
  first_more more is = left ∙ first_miss ws x n i more is

-- the search as the code makes it, in the words that are the slots' keys
module _ (ws : List ℕ) (x : ℕ) where
  abbrev has : ℕ → Bool
  has held = eqb held x

  first_place : (m i : ℕ) → keys_from + i + m ≤ length ws → first_from ws x m i ≡ i + position_or_len has (take m (drop (keys_from + i) ws))
  unfolding first_from
  first_place zero i room = sym (add-zero i)
  first_place (suc m) i room =
      rw (drop-cons ws (keys_from + i) 0 (omega arith))
      (go (eqb (key_at ws i) x) (rw (next i) at (first_place m (i + 1) (omega arith))))
    where
      next : (i : ℕ) → keys_from + (i + 1) ≡ suc (keys_from + i)
      next i = omega arith

      rest : ℕ
      rest = position_or_len has (take m (drop (suc (keys_from + i)) ws))

      go : (t : Bool) → first_from ws x m (i + 1) ≡ i + 1 + rest → (if t then i else first_from ws x m (i + 1)) ≡ i + cond (not t) (1 + rest) 0
      go true more = sym (add-zero i)
      go false more = omega (arith, more)

  -- where none has the key, n is said
  pub first_position :
      (n : ℕ) → n ≤ slots_most → length ws ≡ book_words → {found : Option ℕ}
      → found ≡ position has (slice_range ws keys_from (keys_from + n)) → {slot : ℕ} → slot ≡ unwrap_or found n
      → (slot ≡ first_from ws x n 0) × (slot ≤ n)
  first_position n small full {found} is_found {slot} is = (same ∙ sym first, omega (arith, same, most))
    where
      keys : List ℕ
      keys = take n (drop keys_from ws)

      place : ℕ
      place = position_or_len has keys

      count : keys_from + n - keys_from ≡ n
      count = omega arith

      long : length keys ≡ n
      long = length-take-le n (drop keys_from ws) (rw length-drop (omega arith))

      most : place ≤ n
      most = rw long at (prefix_len-le-length (λ held. not (has held)) keys)

      first : first_from ws x n 0 ≡ place
      first = rw zero-add at (first_place n 0 (omega arith))

      go : (t : Bool) → ltb place (length keys) ≡ t → unwrap_or (cond t (Some place) None) n ≡ place
      go true found = refl
      go false passed = let past = ltb-false place (length keys) passed in omega (arith, past, long, most)

      same : slot ≡ place
      same = is ∙ rw is_found (rw count (go (ltb place (length keys)) refl))

-- a test of each word of a part
pub part_all :
    (test : ℕ → Bool) (ws : List ℕ) (a m : ℕ) → a + m ≤ length ws
    → list_all test (take m (drop a ws)) ≡ all_from (λ j. test (get_or ws (a + j) 0)) m 0
part_all test ws a m room = rw (values_part ws a m room) (all_values test (λ j. get_or ws (a + j) 0) m 0)

-- the loop that copies a block: j words copied
module _ (ws vs : List ℕ) (b n : ℕ) {j : ℕ} {whole : List ℕ} (left : whole ≡ copied ws b vs (n - j) j) where
  pub copy_end : n ≤ j → ws ≡ whole
  unfolding copied
  copy_end past = sym (left ∙ rw (left_none n j past))

  pub copy_more : j < n → whole ≡ copied (set ws (b + j) (get_or vs j 0)) b vs (n - (j + 1)) (j + 1)
  unfolding copied
  copy_more more = left ∙ rw (left_one n j more)
