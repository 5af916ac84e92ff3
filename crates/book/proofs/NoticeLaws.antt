-- Each way out of a notice, on plain values.
--     share_below, share_above         whether a piece and a notice share an address, by which starts first
--     touch_empty, touch_held          one slot
--     apart_from, untouched            what a slot that is not touched has
--     strike_hit, strike_miss          a slot struck, and one left
--     notice_malformed, notice_start, notice_end, notice_done
-- Assumes: nothing.
use Rattle.answers.specs.declared.refusals.Refusal.TheVariants as refusal
use Prim.Native.Nat.{ℕ, ◌+◌, ◌-◌, ◌≤◌, ◌<◌, min, max, zero, suc}
use native.Mathlib.Omega.{arith}
use Rattle.number_laws.proofs.Tests.{not_both}
use Rattle.std.specs.Prelude.{if◌then◌else◌, Err, Ok}
use Rattle.answers.specs.Pieces.{nothing}
use mathlib.Core.Path.{◌≡◌, refl, sym, ◌∙◌}
use mathlib.Core.Bool.{Bool, true, false, ◌&&◌}
use mathlib.Core.List.{List}
use borrow.Author.Tests.{eq-eqb, ne_eqb, lt-ltb, le-ltb, ltb-true, ltb-false, eqb-true, eqb-false}
use lib.Dec.{ltb, eqb}
use lib.ListN.{set, get_or}
use Rattle.memory_image.specs.Extent.{address_top}
use Rattle.memory_image.specs.declared.Piece.{Piece}
use Rattle.answers.specs.Layout.{pieces_most}
use Rattle.answers.specs.declared.Pieces.{Pieces}
use Rattle.answer_words.specs.AnswerWords.{list_of}
use Rattle.book_words.specs.Layout.{slots_most, keys_from, key_at, block_at}
use Rattle.book_words.specs.Malformed.{refusal7}
use Rattle.book.specs.Book.{shares, shared_from, touched, strike, struck_from, notice_says, Noticed}

-- two tests at once, where their meeting says the same
meets :
    (a b c d x y : ℕ) → (a < b → c < d → x < y) → (b ≤ a → y ≤ x) → (d ≤ c → y ≤ x) → (ltb a b && ltb c d) ≡ ltb x y
meets a b c d x y meet left right = go (ltb a b) refl (ltb c d) refl
  where
    go : (p : Bool) → ltb a b ≡ p → (q : Bool) → ltb c d ≡ q → p && q ≡ ltb x y
    go true e true f = sym (lt-ltb x y (meet (ltb-true a b e) (ltb-true c d f)))
    go true e false f = sym (le-ltb x y (right (ltb-false c d f)))
    go false e q f = sym (le-ltb x y (left (ltb-false a b e)))

module _ (start size : ℕ) (p : Piece) where
  pub share_below :
      start ≤ p.address → {r : Bool} → r ≡ (ltb (p.address - start) size && ltb 0 p.length) → r ≡ shares start size p
  unfolding shares
  share_below below is =
      is
      ∙ meets (p.address - start) size 0 p.length (max p.address start) (min (p.address + p.length) (start + size))
      (λ a b. omega arith) (λ a. omega arith) (λ a. omega arith)

  pub share_above :
      p.address < start → {r : Bool} → r ≡ (ltb (start - p.address) p.length && ltb 0 size) → r ≡ shares start size p
  unfolding shares
  share_above above is =
      is
      ∙ meets (start - p.address) p.length 0 size (max p.address start) (min (p.address + p.length) (start + size))
      (λ a b. omega arith) (λ a. omega arith) (λ a. omega arith)

module _ (start size : ℕ) where
  -- where no piece of a list shares an address, each shares none
  pub apart_from :
      (l : List Piece) (m j₀ j : ℕ) → shared_from start size l m j₀ ≡ false → j₀ ≤ j → j < j₀ + m
      → shares start size (get_or l j nothing) ≡ false
  unfolding shared_from
  apart_from l zero j₀ j is from to = absurd (omega arith)
  apart_from l (suc m) j₀ j is from to = go (shares start size (get_or l j₀ nothing)) refl is (eqb j₀ j) refl (apart_from l m (j₀ + 1) j)
    where
      go :
          (t : Bool) → shares start size (get_or l j₀ nothing) ≡ t → (if t then true else shared_from start size l m (j₀ + 1)) ≡ false
          → (u : Bool) → eqb j₀ j ≡ u
          → (shared_from start size l m (j₀ + 1) ≡ false → j₀ + 1 ≤ j → j < j₀ + 1 + m → shares start size (get_or l j nothing) ≡ false)
          → shares start size (get_or l j nothing) ≡ false
      go true a b u c more = not_both b
      go false a b true c more = rw (← eqb-true j₀ j c) a
      go false a b false c more = let other : j₀ ≡ j → ⊥ = eqb-false j₀ j c in more b (omega arith) (omega arith)

  pub untouched :
      (ws : List ℕ) (i : ℕ) → (key_at ws i ≡ 0 → ⊥) → touched ws start size i ≡ false
      → shared_from start size (list_of (block_at ws i)).piece (min (list_of (block_at ws i)).count pieces_most) 0 ≡ false
  unfolding touched
  untouched ws i held is = rw (ne_eqb (key_at ws i) 0 held) at is

module _ (ws : List ℕ) (start size i : ℕ) where
  pub touch_empty : key_at ws i ≡ 0 → false ≡ touched ws start size i
  unfolding touched
  touch_empty none = simp (eq-eqb _ _ none)

  pub touch_held :
      (key_at ws i ≡ 0 → ⊥) → {block : List ℕ} → block ≡ block_at ws i → {list : Pieces} → list ≡ list_of block
      → {r : Bool} → r ≡ shared_from start size list.piece (min list.count pieces_most) 0 → r ≡ touched ws start size i
  unfolding touched
  touch_held held is_block is_list is = rw (is, is_list, is_block) (simp (ne_eqb _ _ held))

  module _ {r : Bool} (is : r ≡ touched ws start size i) where
    pub strike_hit : r ≡ true → set ws (keys_from + i) 0 ≡ strike ws start size i
    unfolding strike
    strike_hit so = simp (← is, so)

    pub strike_miss : r ≡ false → ws ≡ strike ws start size i
    unfolding strike
    strike_miss so = simp (← is, so)

module _ (ws : List ℕ) (start size : ℕ) {bad : Bool} (is_bad : bad ≡ refusal7 ws) where
  pub notice_malformed : bad ≡ true → Noticed ws start size (Err refusal.Malformed) ws
  unfolding notice_says
  notice_malformed so = record { result = simp (← is_bad, so); book = simp (← is_bad, so) }

  module _ (good : bad ≡ false) where
    past : address_top < start + size → Noticed ws start size (Err refusal.Notice) ws
    unfolding notice_says
    past is = record { result = simp (← is_bad, good, lt-ltb _ _ is); book = simp (← is_bad, good, lt-ltb _ _ is) }

    pub notice_start : address_top < start → Noticed ws start size (Err refusal.Notice) ws
    notice_start is = past (omega arith)

    module _ (low : start ≤ address_top) where
      pub notice_end : address_top - start < size → Noticed ws start size (Err refusal.Notice) ws
      notice_end is = past (omega arith)

      pub notice_done :
          size ≤ address_top - start → {after : List ℕ} → after ≡ struck_from ws start size slots_most 0
          → Noticed ws start size (Ok tt) after
      unfolding notice_says
      notice_done fits is =
          let ends : start + size ≤ address_top = omega arith in
          record { result = simp (← is_bad, good, le-ltb _ _ ends); book = is ∙ simp (← is_bad, good, le-ltb _ _ ends) }
