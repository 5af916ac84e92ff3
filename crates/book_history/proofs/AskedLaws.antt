-- What an accepted ask has passed, and the two sentences of demand 3 that speak of one.
--     looked_is               its lookup refuses nothing
--     Passed, passed          the refusals that it passed, what it told and what it left
--     refused_why, accepts    why one is refused; and back: where it passes the refusals it is accepted
--     slot_is, unkept         a request that is kept has one slot; one that isn't has none
--     new_in_lowest, kept_from_its_slot
-- Assumes: nothing.
use Prim.Native.Nat.{ℕ, ◌+◌, ◌≤◌, ◌<◌, ◌-◌}
use Rattle.answers.specs.declared.refusals.Refusal.TheVariants as refusal
use Rattle.answers.specs.declared.refusals.Refusal.{Refusal}
use native.Mathlib.Omega.{arith}
use mathlib.Core.Path.{◌≡◌, refl, sym, ap, ◌∙◌}
use mathlib.Core.Bool.{Bool, true, false}
use mathlib.Core.List.{List}
use mathlib.Core.Logic.{◌⊎◌, inl, inr}
use borrow.Author.Tests.{lt-ltb, ltb-true, ltb-false}
use lib.Dec.{ltb}
use lib.ListN.{length, get_or, set}
use lib.Seq.{get_or-set_other}
use Rattle.std.specs.Prelude.{if◌then◌else◌, Ok, Err}
use Rattle.number_laws.proofs.Tests.{not_both}
use Rattle.bit_fields.proofs.ChoiceLaws.{by_test, either}
use Rattle.ids.specs.Ids.{refusal3}
use Rattle.ids.specs.declared.Request.{Request}
use Rattle.memory_image.specs.Extent.{extent_of, refusal2}
use Rattle.answers.specs.Layout.{answer_words}
use Rattle.answers.specs.Pieces.{pieces_of}
use Rattle.answers.specs.declared.Outcome.{Outcome}
use Rattle.answers.specs.declared.Pieces.{Pieces}
use Rattle.answer_words.specs.AnswerWords.{words_of, outcome_of, list_of}
use Rattle.answer_words.proofs.AnswerWordsLaws.{words_length}
use Rattle.lookup.specs.Lookup.{looked_up, answered, ruled}
use Rattle.lookup_claims.proofs.Claims.{refused_exactly}
use Rattle.book_words.specs.Layout.{slots_most, book_words, keys_from, slots_of, registers_of, key_at, block_from, block_at, key_of, copied, kept_at, other_extent}
use Rattle.book_words.specs.Malformed.{refusal7}
use Rattle.book_words.proofs.KeptLaws.{copied_below, copied_above, kept_key, kept_block}
use Rattle.book_words.proofs.WellLaws.{first_key, first_low, held_to, well_to}
use Rattle.book_words.proofs.WordsLaws.{same_extent}
use Rattle.book.specs.Book.{refused_with, slot_of, empty_slot, newly, now_holding, ask_result, ask_book, new_lookup, Asks}
use Rattle.book.specs.declared.Asked.{Asked}
use Rattle.book.specs.declared.Reply.TheVariants.{KeptBefore, NewlyKept, NotKept}
use Rattle.book_history.specs.Demand3.{Accepted, looked_in, KeptIn, Empty, NewIn, NoRoom, NewInLowest, KeptFromItsSlot}

-- the lookup of an ask that has passed the book's refusals is answered
pub looked_is :
    (ws : List ℕ) (base : ℕ) (memory : List ℕ) (request : Request) → refusal7 ws ≡ false → other_extent ws base (length memory) ≡ false
    → refusal3 request ≡ false → looked_up (registers_of ws) base memory request ≡ answered (ruled (registers_of ws) base memory request)
looked_is ws base memory request good same third =
    let well = well_to ws good in
    let extent : refusal2 (extent_of base memory) ≡ false = rw (same_extent ws base (length memory) same) well.extent in
    (refused_exactly (registers_of ws) base memory request).answer well.registers extent third

module _ (ws : List ℕ) (base : ℕ) (memory : List ℕ) (request : Request) (asked : Asked) (after : List ℕ) where
  pub record Passed : Type 0 where
    pub well : refusal7 ws ≡ false
    pub same : other_extent ws base (length memory) ≡ false
    pub third : refusal3 request ≡ false
    pub told :
        asked
        ≡ (if ltb (slot_of ws request) (slots_of ws)
        then record { reply = Ok (KeptBefore (outcome_of (block_at ws (slot_of ws request)))); list = list_of (block_at ws (slot_of ws request)) }
        else newly (ltb (empty_slot ws) (slots_of ws)) (new_lookup ws base memory request).answer (new_lookup ws base memory request).list)
    pub left :
        after
        ≡ (if ltb (slot_of ws request) (slots_of ws)
        then ws
        else now_holding (ltb (empty_slot ws) (slots_of ws)) ws (empty_slot ws) (key_of request) (new_lookup ws base memory request).answer
        (new_lookup ws base memory request).list)

  pub passed : Asks ws base memory request asked after → Accepted asked.reply → Passed
  unfolding ask_result ask_book
  passed promise accepted =
      by_test Parts (refusal7 ws) (λ bad. refused)
      (λ well. by_test Parts (other_extent ws base (length memory)) (λ other. refused)
      (λ same. by_test Parts (refusal3 request) (λ wide. refused)
      (λ third is.
      record { well = well; same = same; third = third; told = is; left = promise.book ∙ simp (well, same, third) })))
      promise.result
    where
      Parts : Asked → Type 0
      Parts told = asked ≡ told → Passed

      refused : {n : Refusal} → asked ≡ refused_with n → Passed
      refused {n = n} is = absurd (accepted n (ap (λ (a : Asked). a.reply) is))

-- an ask that is refused: with which number, and why
pub refused_why :
    (ws : List ℕ) (base : ℕ) (memory : List ℕ) (request : Request) (asked : Asked) (after : List ℕ) (n : Refusal)
    → Asks ws base memory request asked after → asked.reply ≡ Err n
    → ((n ≡ refusal.Malformed) × (refusal7 ws ≡ true)) ⊎ (((n ≡ refusal.OtherMemory) × (other_extent ws base (length memory) ≡ true)) ⊎ ((n ≡ refusal.Substream) × (refusal3 request ≡ true)))
unfolding ask_result
refused_why ws base memory request asked after n promise is =
    by_test Why (refusal7 ws) (λ bad so. inl (cc, bad))
    (λ well. by_test Why (other_extent ws base (length memory)) (λ other so. inr (inl (cc, other)))
    (λ same. by_test Why (refusal3 request) (λ wide so. inr (inr (cc, wide)))
    (λ third. either Why (ltb (slot_of ws request) (slots_of ws)) (λ so. let z : ◌≡◌ {A = ℕ} 0 1 = cc in absurd (omega arith))
    (rw (looked_is ws base memory request well same third) (anew (ltb (empty_slot ws) (slots_of ws)) _ _)))))
    (sym (ap (λ (a : Asked). a.reply) promise.result) ∙ is)
  where
    Why : Asked → Type 0
    Why told =
        told.reply ≡ Err n
        → ((n ≡ refusal.Malformed) × (refusal7 ws ≡ true)) ⊎ (((n ≡ refusal.OtherMemory) × (other_extent ws base (length memory) ≡ true)) ⊎ ((n ≡ refusal.Substream) × (refusal3 request ≡ true)))

    anew : (room : Bool) (outcome : Outcome) (list : Pieces) → Why (newly room (Ok outcome) list)
    anew true outcome list so = let z : ◌≡◌ {A = ℕ} 0 1 = cc in absurd (omega arith)
    anew false outcome list so = let z : ◌≡◌ {A = ℕ} 0 1 = cc in absurd (omega arith)

-- where it passes the refusals it is accepted
pub accepts :
    (ws : List ℕ) (base : ℕ) (memory : List ℕ) (request : Request) (asked : Asked) (after : List ℕ) → refusal7 ws ≡ false
    → other_extent ws base (length memory) ≡ false → refusal3 request ≡ false → Asks ws base memory request asked after → Accepted asked.reply
accepts ws base memory request asked after well same third promise n is = go (refused_why ws base memory request asked after n promise is)
  where
    go : ((n ≡ refusal.Malformed) × (refusal7 ws ≡ true)) ⊎ (((n ≡ refusal.OtherMemory) × (other_extent ws base (length memory) ≡ true)) ⊎ ((n ≡ refusal.Substream) × (refusal3 request ≡ true))) → ⊥
    go (inl why) = not_both (sym why.1 ∙ well)
    go (inr (inl why)) = not_both (sym why.1 ∙ same)
    go (inr (inr why)) = not_both (sym why.1 ∙ third)

-- where a request is kept
module _ (ws : List ℕ) (request : Request) where
  pub slot_is : refusal7 ws ≡ false → (i : ℕ) → KeptIn ws request i → slot_of ws request ≡ i
  slot_is good i kept =
      let well = well_to ws good in
      let few = well.few in
      let below = kept.below in
      let key = kept.key in
      let low : slot_of ws request ≤ i = first_low (slots_of ws) ws (key_of request) 0 i key (omega arith) (omega arith) in
      let there : key_at ws (slot_of ws request) ≡ key_of request = first_key (slots_of ws) ws (key_of request) 0 (omega arith) in
      let held = held_to ws i (omega arith) (well.slots i (omega arith)) (λ none. omega arith) in
      go (ltb (slot_of ws request) i) refl low there held.alone
    where
      go :
          (t : Bool) → ltb (slot_of ws request) i ≡ t → slot_of ws request ≤ i → key_at ws (slot_of ws request) ≡ key_of request
          → ((j : ℕ) → j < i → key_at ws j ≡ key_at ws i → ⊥) → slot_of ws request ≡ i
      go true e low there alone = absurd (alone (slot_of ws request) (ltb-true _ _ e) (there ∙ sym kept.key))
      go false e low there alone = let high : i ≤ slot_of ws request = ltb-false _ _ e in omega arith

  pub unkept : ((i : ℕ) → KeptIn ws request i → ⊥) → ltb (slot_of ws request) (slots_of ws) ≡ false
  unkept none = go (ltb (slot_of ws request) (slots_of ws)) refl
    where
      go : (t : Bool) → ltb (slot_of ws request) (slots_of ws) ≡ t → t ≡ false
      go true e =
          let found : slot_of ws request < slots_of ws = ltb-true _ _ e in
          absurd (none (slot_of ws request) (record { below = found; key = first_key (slots_of ws) ws (key_of request) 0 (omega arith) }))
      go false e = refl

pub kept_from_its_slot : KeptFromItsSlot
kept_from_its_slot ws base memory request asked after promise accepted i kept =
    let h = passed ws base memory request asked after promise accepted in
    let at : slot_of ws request ≡ i = slot_is ws request h.well i kept in
    let found : ltb i (slots_of ws) ≡ true = lt-ltb _ _ kept.below in
    (h.told ∙ simp (at, found), h.left ∙ simp (at, found))

-- a word that is neither the key nor one of the block of a slot that is filled
module _ (ws : List ℕ) (i key : ℕ) (block : List ℕ) (small : i < slots_most) where
  kept_else :
      (x : ℕ) → (x ≡ keys_from + i → ⊥) → ((j : ℕ) → j < answer_words → x ≡ block_from i + j → ⊥)
      → get_or (kept_at ws i key block) x 0 ≡ get_or ws x 0
  kept_else x other out = go (ltb x (block_from i)) refl ∙ get_or-set_other ws (keys_from + i) x key 0 other
    where
      filled : List ℕ
      filled = set ws (keys_from + i) key

      go : (t : Bool) → ltb x (block_from i) ≡ t → get_or (copied filled (block_from i) block answer_words 0) x 0 ≡ get_or filled x 0
      go true e = let low : x < block_from i = ltb-true _ _ e in copied_below answer_words filled block (block_from i) 0 x (omega arith)
      go false e =
          let high : block_from i ≤ x = ltb-false _ _ e in
          past (ltb x (block_from i + answer_words)) refl high
        where
          past :
              (t : Bool) → ltb x (block_from i + answer_words) ≡ t → block_from i ≤ x
              → get_or (copied filled (block_from i) block answer_words 0) x 0 ≡ get_or filled x 0
          past true f high =
              let inside : x < block_from i + answer_words = ltb-true _ _ f in
              absurd (out (x - block_from i) (omega arith) (omega arith))
          past false f high =
              let above : block_from i + answer_words ≤ x = ltb-false _ _ f in
              copied_above answer_words filled block (block_from i) 0 x (omega arith)

-- an answer that isn't kept, with room or without
module _ (ws : List ℕ) (request : Request) (outcome : Outcome) (l : Pieces) (asked : Asked) (after : List ℕ)
    (told : asked ≡ newly (ltb (empty_slot ws) (slots_of ws)) (Ok outcome) l)
    (left : after ≡ now_holding (ltb (empty_slot ws) (slots_of ws)) ws (empty_slot ws) (key_of request) (Ok outcome) l) where
  either_way : looked_in asked ≡ record { answer = Ok outcome; list = l }
  either_way = go (ltb (empty_slot ws) (slots_of ws)) told
    where
      go : (room : Bool) → asked ≡ newly room (Ok outcome) l → looked_in asked ≡ record { answer = Ok outcome; list = l }
      go true is = ap looked_in is
      go false is = ap looked_in is

  with_room : length ws ≡ book_words → slots_of ws ≤ slots_most → (i : ℕ) → Empty ws i → NewIn ws request asked after
  with_room size few i empty =
      let below = empty.0 in
      let low : empty_slot ws ≤ i = first_low (slots_of ws) ws 0 0 i empty.1 (omega arith) (omega arith) in
      let inside : empty_slot ws < slots_of ws = omega arith in
      let there : asked ≡ record { reply = Ok (NewlyKept outcome); list = l } = told ∙ simp (lt-ltb _ _ inside) in
      let kept : after ≡ kept_at ws (empty_slot ws) (key_of request) (words_of outcome l) = left ∙ simp (lt-ltb _ _ inside) in
      record {
        slot = empty_slot ws;
        empty = (inside, first_key (slots_of ws) ws 0 0 (omega arith));
        lowest = λ j less one.
            let from = first_low (slots_of ws) ws 0 0 j one.1 (omega arith) (omega arith) in
            omega arith;
        outcome = outcome;
        told = ap (λ (a : Asked). a.reply) there;
        key = rw kept (kept_key ws (empty_slot ws) (key_of request) (words_of outcome l) size (omega arith));
        block =
            rw (kept, there)
            (kept_block ws (empty_slot ws) (key_of request) (words_of outcome l) size (omega arith) (words_length outcome l));
        rest = λ x other out. rw kept (kept_else ws (empty_slot ws) (key_of request) (words_of outcome l) (omega arith) x other out);
      }

  without_room : ((i : ℕ) → Empty ws i → ⊥) → NoRoom ws asked after
  without_room none =
      let out : ltb (empty_slot ws) (slots_of ws) ≡ false = go (ltb (empty_slot ws) (slots_of ws)) refl in
      let there : asked ≡ record { reply = Ok (NotKept outcome); list = l } = told ∙ simp out in
      record { outcome = outcome; told = ap (λ (a : Asked). a.reply) there; same = left ∙ simp out }
    where
      go : (t : Bool) → ltb (empty_slot ws) (slots_of ws) ≡ t → t ≡ false
      go true e =
          let inside : empty_slot ws < slots_of ws = ltb-true _ _ e in
          absurd (none (empty_slot ws) (inside, first_key (slots_of ws) ws 0 0 (omega arith)))
      go false e = refl

pub new_in_lowest : NewInLowest
new_in_lowest ws base memory request asked after size promise accepted none =
    let h = passed ws base memory request asked after promise accepted in
    let is = looked_is ws base memory request h.well h.same h.third in
    let out = unkept ws request none in
    let ran = ruled (registers_of ws) base memory request in
    let told : asked ≡ newly (ltb (empty_slot ws) (slots_of ws)) (Ok ran.answer) (pieces_of ran.list) = h.told ∙ simp (out, is) in
    let left : after ≡ now_holding (ltb (empty_slot ws) (slots_of ws)) ws (empty_slot ws) (key_of request) (Ok ran.answer) (pieces_of ran.list)
    = h.left ∙ simp (out, is) in
    record {
      by_lookup = either_way ws request ran.answer (pieces_of ran.list) asked after told left ∙ sym is;
      room = with_room ws request ran.answer (pieces_of ran.list) asked after told left size (well_to ws h.well).few;
      full = without_room ws request ran.answer (pieces_of ran.list) asked after told left;
    }
