-- Demand 3: specs/Demand3.antt, each sentence under its own name; the two that speak of one ask are in AskedLaws.
--     touched_to, hit      a slot that is touched has read there, and one that has is touched
--     strikes_exactly, never_stale
-- Assumes: nothing.
use Prim.Native.Nat.{ℕ, zero, suc, ◌+◌, ◌^◌, ◌≤◌, ◌<◌, min, ◌-◌}
use Rattle.answers.specs.declared.refusals.Refusal.{Refusal}
use native.Mathlib.Omega.{arith}
use mathlib.Core.Path.{◌≡◌, refl, sym, ap, ◌∙◌}
use mathlib.Core.Bool.{Bool, true, false, not}
use mathlib.Core.List.{List}
use mathlib.Core.Logic.{◌⊎◌, inl, inr}
use borrow.Author.Tests.{eqb-true, eqb-false, ltb-true, ltb-false, not-true}
use lib.Dec.{eqb, ltb}
use lib.ListN.{length, get_or}
use Rattle.std.specs.Prelude.{if◌then◌else◌, Ok, Result, Some, ⊤}
use Rattle.number_laws.proofs.Tests.{both, not_both}
use Rattle.bit_fields.proofs.ChoiceLaws.{by_test, either}
use Rattle.ids.specs.Packing.{packed, unpacked}
use Rattle.ids.specs.declared.Request.{Request}
use Rattle.ids.proofs.Claims.{packing_loses_nothing}
use Rattle.memory_image.specs.declared.Extent.{Extent}
use Rattle.memory_image.specs.declared.Piece.{Piece}
use Rattle.answers.specs.Layout.{pieces_most}
use Rattle.answers.specs.Pieces.{nothing}
use Rattle.answer_words.specs.AnswerWords.{list_of}
use Rattle.answer_words.proofs.AnswerWordsLaws.{stands_count}
use Rattle.lookup.specs.Lookup.{looked_up}
use Rattle.book_words.specs.Layout.{slots_most, keys_from, blocks_from, slots_of, key_at, block_at, key_of}
use Rattle.book_words.specs.Malformed.{refusal7}
use Rattle.book_words.proofs.WordsLaws.{same_extent}
use Rattle.book_words.proofs.WellLaws.{first_key, first_low, held_to, well_to}
use Rattle.book.specs.Book.{slot_of, shares, shared_from, touched, struck_from, notice_says, Asks}
use Rattle.book.specs.declared.Asked.{Asked}
use Rattle.book.proofs.NoticeLaws.{apart_from, untouched}
use Rattle.book.proofs.StruckLaws.{struck_length, struck_else, struck_key}
use Rattle.book_history.specs.History.{State, Begun, edit, handed, differs, handing}
use Rattle.book_history.specs.Demand3.{Accepted, looked_in, NeverStale, ReadThere, Struck, StrikesExactly, KeptIn}
use Rattle.book_history.proofs.AskedLaws.{passed, kept_from_its_slot, new_in_lowest}
use Rattle.book_history.proofs.HistoryLaws.{handed_today, later, begun_sound}
use Rattle.book_history.proofs.Claims.{still_good, header_stays, shares_means}

-- a notice: which slots it touches
module _ (start size : ℕ) where
  record One (l : List Piece) (m j₀ : ℕ) : Type 0 where
    place : ℕ
    low : j₀ ≤ place
    high : place < j₀ + m
    shared : shares start size (get_or l place nothing) ≡ true

  one_shares : (l : List Piece) (m j₀ : ℕ) → shared_from start size l m j₀ ≡ true → One l m j₀
  unfolding shared_from
  one_shares l zero j₀ is = not_both (sym is)
  one_shares l (suc m) j₀ is = go (shares start size (get_or l j₀ nothing)) refl is (one_shares l m (j₀ + 1))
    where
      go :
          (t : Bool) → shares start size (get_or l j₀ nothing) ≡ t → (if t then true else shared_from start size l m (j₀ + 1)) ≡ true
          → (shared_from start size l m (j₀ + 1) ≡ true → One l m (j₀ + 1)) → One l (suc m) j₀
      go true e is later = record { place = j₀; low = omega arith; high = omega arith; shared = e }
      go false e is later =
          let one = later is in
          let from = one.low in
          let to = one.high in
          record { place = one.place; low = omega arith; high = omega arith; shared = one.shared }

  module _ (ws : List ℕ) (i : ℕ) where
    pub touched_to : touched ws start size i ≡ true → (key_at ws i ≡ 0 → ⊥) × ReadThere ws start size i
    unfolding touched
    touched_to is =
        let two = both (not (eqb (key_at ws i) 0)) _ is in
        let one = one_shares (list_of (block_at ws i)).piece (min (list_of (block_at ws i)).count pieces_most) 0 two.1 in
        let to = one.high in (
          eqb-false (key_at ws i) 0 (not-true _ two.0),
          record { place = one.place; counted = omega arith; shared = (shares_means start size _).0 one.shared },
        )

    touched_from :
        (key_at ws i ≡ 0 → ⊥) → (list_of (block_at ws i)).count ≤ pieces_most → ReadThere ws start size i → touched ws start size i ≡ true
    touched_from held few read = go (touched ws start size i) refl
      where
        go : (t : Bool) → touched ws start size i ≡ t → t ≡ true
        go true e = refl
        go false e =
            let counted = read.counted in
            let out = apart_from start size (list_of (block_at ws i)).piece (min (list_of (block_at ws i)).count pieces_most) 0 read.place (untouched start size ws i held e) (omega arith) (omega arith) in
            not_both (sym ((shares_means start size _).1 read.shared) ∙ out)

-- a notice that is taken
module _ (ws : List ℕ) (start size : ℕ) (good : refusal7 ws ≡ false) where
  after_key : (i : ℕ) → i < slots_most → key_at (struck_from ws start size slots_most 0) i ≡ (if touched ws start size i then 0 else key_at ws i)
  after_key i small = struck_key start size slots_most ws 0 i (omega arith) (omega arith) (omega arith)

  pub hit : (i : ℕ) → i < slots_most → (key_at ws i ≡ 0 → ⊥) → ReadThere ws start size i → touched ws start size i ≡ true
  hit i small held read =
      touched_from start size ws i held (stands_count (block_at ws i) (held_to ws i small ((well_to ws good).slots i small) held).answer) read

  struck : Struck ws start size (struck_from ws start size slots_most 0)
  struck =
      record {
        empty_if = λ i small one. after_key i small ∙ emptied i small one;
        empty_only_if = λ i small empty. only i (touched ws start size i) refl (sym (after_key i small) ∙ empty);
        rest = λ x other. elsewhere x other (ltb x keys_from) refl (ltb x blocks_from) refl;
        long = struck_length start size slots_most ws 0;
      }
    where
      emptied :
          (i : ℕ) → i < slots_most → (key_at ws i ≡ 0) ⊎ ReadThere ws start size i → (if touched ws start size i then 0 else key_at ws i) ≡ 0
      emptied i small (inl none) = either (λ k. k ≡ 0) (touched ws start size i) refl none
      emptied i small (inr read) = go (eqb (key_at ws i) 0) refl
        where
          go : (t : Bool) → eqb (key_at ws i) 0 ≡ t → (if touched ws start size i then 0 else key_at ws i) ≡ 0
          go true e = either (λ k. k ≡ 0) (touched ws start size i) refl (eqb-true _ _ e)
          go false e = rw (hit i small (eqb-false _ _ e) read)

      only :
          (i : ℕ) (t : Bool) → touched ws start size i ≡ t → (if touched ws start size i then 0 else key_at ws i) ≡ 0
          → (key_at ws i ≡ 0) ⊎ ReadThere ws start size i
      only i true e empty = inr (touched_to start size ws i e).1
      only i false e empty = inl (rw e at empty)

      elsewhere :
          (x : ℕ) → ((i : ℕ) → i < slots_most → x ≡ keys_from + i → (key_at ws i ≡ 0 → ⊥) → ReadThere ws start size i → ⊥)
          → (t : Bool) → ltb x keys_from ≡ t → (u : Bool) → ltb x blocks_from ≡ u
          → get_or (struck_from ws start size slots_most 0) x 0 ≡ get_or ws x 0
      elsewhere x other true low u high =
          let l : x < keys_from = ltb-true _ _ low in
          struck_else start size slots_most ws 0 x (λ j from to is. omega arith)
      elsewhere x other false low false high =
          let h : blocks_from ≤ x = ltb-false _ _ high in
          struck_else start size slots_most ws 0 x (λ j from to is. omega arith)
      elsewhere x other false low true high =
          let l : keys_from ≤ x = ltb-false _ _ low in
          let h : x < blocks_from = ltb-true _ _ high in
          let e : keys_from + (x - keys_from) ≡ x = omega arith in
          let key : key_at (struck_from ws start size slots_most 0) (x - keys_from) ≡ key_at ws (x - keys_from)
          = after_key (x - keys_from) (omega arith) ∙ left (touched ws start size (x - keys_from)) refl in
          rw e at key
        where
          left : (t : Bool) → touched ws start size (x - keys_from) ≡ t → (if touched ws start size (x - keys_from) then 0 else key_at ws (x - keys_from)) ≡ key_at ws (x - keys_from)
          left true e =
              let l : keys_from ≤ x = ltb-false _ _ low in
              let h : x < blocks_from = ltb-true _ _ high in
              let two = touched_to start size ws (x - keys_from) e in
              absurd (other (x - keys_from) (omega arith) (omega arith) two.0 two.1)
          left false e = rw e

-- a notice that isn't refused is one of a book that isn't malformed
taken : (ws : List ℕ) (start size : ℕ) → (Ok tt) ≡ notice_says ws start size → refusal7 ws ≡ false
unfolding notice_says
taken ws start size =
    by_test Good (refusal7 ws) (λ bad is. let z : ◌≡◌ {A = ℕ} 0 1 = cc in absurd (omega arith)) (λ good is. good)
  where
    Good : Result ⊤ Refusal → Type 0
    Good says = (Ok tt) ≡ says → refusal7 ws ≡ false

pub strikes_exactly : StrikesExactly
strikes_exactly ws start size after promise =
    let is : after ≡ struck_from ws start size slots_most 0 = rw (← promise.result) at promise.book in
    rw is (struck ws start size (taken ws start size promise.result))

-- an ask, where nothing lacks its notice
module _ (s : State) (began : Begun s) (base : ℕ) (memory : List ℕ) (request : Request) (narrow : request.stream.number < 2 ^ 32)
    (clean : (a : ℕ) → (handing s base memory).unnoticed a ≡ false) (asked : Asked) (after : List ℕ)
    (promise : Asks s.words base memory request asked after) (accepted : Accepted asked.reply) where
  -- what is handed in is one more edit
  handed_in : Begun (handing s base memory)
  handed_in = later began (edit (differs s base memory) (handed base memory))

  from_slot : (i : ℕ) → KeptIn s.words request i → looked_in asked ≡ looked_up s.registers base memory request
  from_slot i kept =
      let p = passed s.words base memory request asked after promise accepted in
      let extent : (record { base = base; length = length memory }) ≡ s.extent
      = same_extent s.words base (length memory) p.same ∙ (header_stays s began).1 in
      let here : s.extent.base ≡ base = sym (ap (λ (e : Extent). e.base) extent) in
      let few = (well_to s.words p.well).few in
      let below = kept.below in
      let key = kept.key in
      let back : packed request + 1 - 1 ≡ packed request = omega arith in
      let is : unpacked (key_at s.words i - 1) ≡ Some request
      = rw (key, back) (packing_loses_nothing request (record { stream = narrow; substream = p.third })) in
      let good = still_good (handing s base memory) handed_in i (omega arith) (λ none. omega arith) (λ j counted a from to. clean a) request is in
      ap looked_in (kept_from_its_slot s.words base memory request asked after promise accepted i kept).0
      ∙ sym (rw (handed_today s base memory extent, here) at good)

  unkept : slots_of s.words ≤ slot_of s.words request → (i : ℕ) → KeptIn s.words request i → ⊥
  unkept past i kept =
      let below = kept.below in
      let low = first_low (slots_of s.words) s.words (key_of request) 0 i kept.key (omega arith) (omega arith) in
      omega arith

  either_way : (t : Bool) → ltb (slot_of s.words request) (slots_of s.words) ≡ t → looked_in asked ≡ looked_up s.registers base memory request
  either_way true e =
      let found : slot_of s.words request < slots_of s.words = ltb-true _ _ e in
      from_slot (slot_of s.words request) (record { below = found; key = first_key (slots_of s.words) s.words (key_of request) 0 (omega arith) })
  either_way false e =
      let new = new_in_lowest s.words base memory request asked after (begun_sound s began).size promise accepted (unkept (ltb-false _ _ e)) in
      new.by_lookup ∙ rw (header_stays s began).0

pub never_stale : NeverStale
never_stale s began base memory request narrow clean asked after promise accepted =
    either_way s began base memory request narrow clean asked after promise accepted (ltb (slot_of s.words request) (slots_of s.words)) refl
