-- What holds of a book after any history: each slot that is held, and whose list shares no address with what was edited and not yet
-- noticed, holds what a new lookup in today's memory gives. Of the lookup this cites `looked_up` by its name, and its claims.
--     Sound             the whole of it
--     handed_today      the memory that an accepted ask was handed is today's
--     later             one event more
--     begun_sound       it holds after an accepted opening and any history
-- Assumes: nothing.
use Prim.Native.Nat.{ℕ, ◌+◌, ◌^◌, ◌≤◌, ◌<◌, min, max, ◌-◌}
use Rattle.answers.specs.declared.refusals.Refusal.{Refusal}
use native.Mathlib.Omega.{arith}
use native.Mathlib.Nat.{zero-add}
use mathlib.Core.Path.{◌≡◌, refl, sym, ap, ◌∙◌}
use mathlib.Core.Bool.{Bool, true, false, not, ◌&&◌, ◌||◌}
use mathlib.Core.List.{List}
use borrow.Author.Tests.{ltb-true, ltb-false, eqb-true, eqb-false, leb-true, le-leb, lt-ltb}
use lib.Dec.{eqb, leb, ltb}
use lib.ListN.{length, get_or}
use Rattle.std.specs.Prelude.{if◌then◌else◌, Err, Ok, Result, Some, ⊤}
use Rattle.number_laws.proofs.Tests.{neither}
use Rattle.bit_fields.proofs.ChoiceLaws.{by_test}
use Rattle.placed.proofs.FromLaws.{values_length, values_at_lem, values_same, values_list}
use Rattle.ids.specs.Ids.{refusal3}
use Rattle.ids.specs.Packing.{packed, unpacked}
use Rattle.ids.specs.declared.Request.{Request}
use Rattle.ids.proofs.Claims.{packing_loses_nothing}
use Rattle.registers.specs.Sizes.{refusal1}
use Rattle.registers.specs.declared.Registers.{Registers}
use Rattle.memory_image.specs.Extent.{extent_of, refusal2}
use Rattle.memory_image.specs.declared.Extent.{Extent}
use Rattle.memory_image.specs.Rule.{Agree}
use Rattle.memory_image.specs.Words.{bytes}
use Rattle.memory_image.specs.declared.Piece.{Piece}
use Rattle.answers.specs.Layout.{pieces_most}
use Rattle.answers.specs.Pieces.{nothing, EachPiece}
use Rattle.answers.specs.Proper.{ProperAnswer}
use Rattle.answers.specs.declared.Outcome.{Outcome}
use Rattle.answers.specs.declared.Pieces.{Pieces}
use Rattle.answer_words.specs.AnswerWords.{words_of, outcome_of, list_of}
use Rattle.answer_words.proofs.AnswerWordsLaws.{words_length, stands_count, proper_own}
use Rattle.lookup.specs.Lookup.{looked_up, answered, ruled}
use Rattle.lookup.specs.declared.Looked.{Looked}
use Rattle.lookup_claims.proofs.Claims.{depends_on_list, listed_lies, answers_proper, kept_is_read_back}
use Rattle.book_words.specs.Layout.{slots_most, book_words, base_at, length_at, keys_from, slots_of, registers_of, extent_held, key_at, block_at, key_of, kept_at, opened_with}
use Rattle.book_words.proofs.KeptLaws.{kept_length, kept_before_lem, kept_key, kept_key_other, kept_block, kept_block_other}
use Rattle.book_words.proofs.WordsLaws.{same_extent}
use Rattle.book_words.proofs.WellLaws.{held_to, first_low, Well}
use Rattle.book_words.proofs.KeepsLaws.{registers_same, kept_well, open_well, opened_length, opened_registers, opened_empty}
use Rattle.book.specs.Book.{shares, struck_from, slot_of, empty_slot, now_holding, open_says, Opened, Asks, Noticed}
use Rattle.book.specs.declared.Asked.{Asked}
use Rattle.book.specs.declared.Reply.{Reply}
use Rattle.book.specs.declared.Reply.TheVariants as reply
use Rattle.book.proofs.NoticeLaws.{apart_from, untouched}
use Rattle.book.proofs.StruckLaws.{struck_length, struck_else, struck_block, struck_left, struck_well}
use Rattle.book_history.specs.History.{State, Event, edit, notice, ask, report, opens, History, start, more, Begun, Narrow, today, within, holding, editing, handed, differs, handing, noticing, asking, opening}
use Rattle.book_history.specs.Demand3.{Accepted}
use Rattle.book_history.specs.Claims.{Clean, FreshIn}
use Rattle.book_history.proofs.Demand1.{holds_what_it_held}
use Rattle.book_history.proofs.AskedLaws.{passed, looked_is}

-- what a slot's block says, as a lookup would
abbrev pub held_in : List ℕ → Looked
held_in block = record { answer = Ok (outcome_of block); list = list_of block }

pub record Sound (s : State) : Type 0 where
  pub size : length s.words ≡ book_words
  pub well : Well s.words
  pub registers : registers_of s.words ≡ s.registers
  pub extent : extent_held s.words ≡ s.extent
  pub fresh : FreshIn s

same_sound : (s : State) (after : List ℕ) → after ≡ s.words → Sound s → Sound (holding s after)
same_sound s after is h = rw is h

-- an edit
module _ (s : State) (at : ℕ → Bool) (other : ℕ → ℕ) where
  -- the bytes of a piece that lies in the memory and was not edited
  kept_byte :
      (a : ℕ) → s.extent.base ≤ a → a - s.extent.base < s.extent.length → at a ≡ false
      → get_or (today s) (a - s.extent.base) 0 ≡ get_or (today (editing s at other)) (a - s.extent.base) 0
  kept_byte a from few out =
      let back : s.extent.base + (a - s.extent.base) ≡ a = omega arith in
      values_at_lem _ s.extent.length 0 (a - s.extent.base) 0 few
      ∙ sym (values_at_lem _ s.extent.length 0 (a - s.extent.base) 0 few ∙ rw (zero-add, back, out))

  pub edit_sound : Sound s → Sound (editing s at other)
  edit_sound h =
      record {
        size = h.size;
        well = h.well;
        registers = h.registers;
        extent = h.extent;
        fresh = λ i small held clean request is.
            let was = h.fresh i small held (λ j few a from to. (neither (at a) (s.unnoticed a) (clean j few a from to)).1) request is in
            depends_on_list s.registers s.extent.base (today s) (today (editing s at other)) request
            (values_length _ s.extent.length 0 ∙ sym (values_length _ s.extent.length 0))
            (rw was (same request i was clean)) ∙ was;
      }
    where
      same :
          (request : Request) (i : ℕ)
          → looked_up s.registers s.extent.base (today s) request ≡ held_in (block_at s.words i)
          → Clean (λ a. at a || s.unnoticed a) (list_of (block_at s.words i))
          → EachPiece (Agree (extent_of s.extent.base (today s)) (bytes (today s)) (bytes (today (editing s at other)))) (list_of (block_at s.words i))
      same request i was clean j few a from to =
          let lies = rw was at (listed_lies s.registers s.extent.base (today s) request) in
          let begins = (lies j few).from in
          let ends = (lies j few).inside in
          let long : length (today s) ≡ s.extent.length = values_length _ s.extent.length 0 in
          kept_byte a (omega arith) (omega arith) (neither (at a) (s.unnoticed a) (clean j few a from to)).0

-- a notice
module _ (begin size : ℕ) where
  -- an address of a piece that shares none with a notice is not noticed
  apart : (p : Piece) (a : ℕ) → shares begin size p ≡ false → p.address ≤ a → a < p.address + p.length → within begin size a ≡ false
  unfolding shares
  apart p a is from to = go (leb begin a) refl (ltb a (begin + size)) refl
    where
      away : min (p.address + p.length) (begin + size) ≤ max p.address begin
      away = ltb-false _ _ is

      go : (t : Bool) → leb begin a ≡ t → (u : Bool) → ltb a (begin + size) ≡ u → t && u ≡ false
      go true e true f = absurd (omega (arith, leb-true begin a e, ltb-true a (begin + size) f, away))
      go true e false f = refl
      go false e u f = refl

  module _ (s : State) where
    struck : List ℕ
    struck = struck_from s.words begin size slots_most 0

    pub struck_sound : Sound s → Sound (noticing (Ok tt) s begin size (struck_from s.words begin size slots_most 0))
    struck_sound h =
        record {
          size = struck_length begin size slots_most s.words 0 ∙ h.size;
          well = struck_well s.words begin size h.well;
          registers = registers_same s.words _ (λ x few. at x (omega arith)) ∙ h.registers;
          extent = rw (at base_at (omega arith), at length_at (omega arith)) h.extent;
          fresh = λ i small held clean request is. stays i small held clean request is;
        }
      where
        at : (x : ℕ) → x < keys_from → get_or (struck_from s.words begin size slots_most 0) x 0 ≡ get_or s.words x 0
        at x few = struck_else begin size slots_most s.words 0 x (λ j from to is. omega arith)

        same_block : (i : ℕ) → block_at (struck_from s.words begin size slots_most 0) i ≡ block_at s.words i
        same_block i = struck_block s.words begin size i

        clear : (a : ℕ) → within begin size a ≡ false → (if within begin size a then false else s.unnoticed a) ≡ false → s.unnoticed a ≡ false
        clear a out is = rw out at is

        stays :
            (i : ℕ) → i < slots_most → (key_at (struck_from s.words begin size slots_most 0) i ≡ 0 → ⊥)
            → Clean (λ a. if within begin size a then false else s.unnoticed a) (list_of (block_at (struck_from s.words begin size slots_most 0) i))
            → (request : Request) → unpacked (key_at (struck_from s.words begin size slots_most 0) i - 1) ≡ Some request
            → looked_up s.registers s.extent.base (today s) request ≡ held_in (block_at (struck_from s.words begin size slots_most 0) i)
        stays i small held clean request is =
            let left = struck_left s.words begin size i small held in
            let was_held : key_at s.words i ≡ 0 → ⊥ = λ none. held (left.1 ∙ none) in
            let few = stands_count (block_at s.words i) (held_to s.words i small (h.well.slots i small) was_held).answer in
            let none_shared = untouched begin size s.words i was_held left.0 in
            let clean' : Clean (λ a. if within begin size a then false else s.unnoticed a) (list_of (block_at s.words i)) = rw (same_block i) at clean in
            rw (same_block i)
            (h.fresh i small was_held
            (λ j counted a from to.
            let out = apart_from begin size (list_of (block_at s.words i)).piece (min (list_of (block_at s.words i)).count pieces_most) 0 j none_shared (omega arith) (omega arith) in
            clear a (apart (get_or (list_of (block_at s.words i)).piece j nothing) a out from to) (clean' j counted a from to))
            request (ap (λ (k : ℕ). unpacked (k - 1)) (sym left.1) ∙ is))

-- an ask that is kept
module _ (s : State) (h : Sound s) (request : Request) (j : ℕ) (room : j < slots_of s.words)
    (new : (i : ℕ) → i < slots_most → key_at s.words i ≡ key_of request → ⊥)
    (is_request : unpacked (key_of request - 1) ≡ Some request) {outcome : Outcome} {l : Pieces}
    (told : looked_up s.registers s.extent.base (today s) request ≡ record { answer = Ok outcome; list = l }) where
  small_slot : j < slots_most
  small_slot = omega (arith, h.well.few)

  kept_said : held_in (words_of outcome l) ≡ record { answer = Ok outcome; list = l }
  kept_said =
      let proper = answers_proper s.registers s.extent.base (today s) request outcome l told in
      let back = kept_is_read_back outcome l in
      rw (back.same_outcome (proper_own outcome proper.outcome_proper), back.same_list proper.array_full)

  pub kept_sound : Sound (holding s (kept_at s.words j (key_of request) (words_of outcome l)))
  kept_sound =
      record {
        size = kept_length s.words j (key_of request) (words_of outcome l) h.size small_slot;
        well =
            kept_well s.words j (key_of request) (words_of outcome l) h.size h.well room new is_request (words_length outcome l)
            ((kept_is_read_back outcome l).standing proper);
        registers = registers_same s.words _ (λ x few. at x (omega arith)) ∙ h.registers;
        extent = rw (at base_at (omega arith), at length_at (omega arith)) h.extent;
        fresh = λ i small held clean q is. slot i small held clean q is (eqb i j) refl;
      }
    where
      proper : ProperAnswer outcome l
      proper = answers_proper s.registers s.extent.base (today s) request outcome l told

      after : List ℕ
      after = kept_at s.words j (key_of request) (words_of outcome l)

      at : (x : ℕ) → x < keys_from → get_or after x 0 ≡ get_or s.words x 0
      at x few = kept_before_lem s.words j (key_of request) (words_of outcome l) h.size small_slot x (omega arith) (λ e. omega arith)

      slot :
          (i : ℕ) → i < slots_most → (key_at after i ≡ 0 → ⊥) → Clean s.unnoticed (list_of (block_at after i)) → (q : Request)
          → unpacked (key_at after i - 1) ≡ Some q → (t : Bool) → eqb i j ≡ t
          → looked_up s.registers s.extent.base (today s) q ≡ held_in (block_at after i)
      slot i small held clean q is true e =
          let here : i ≡ j = eqb-true i j e in
          let key : key_at after i ≡ key_of request =
          rw here (kept_key s.words j (key_of request) (words_of outcome l) h.size small_slot) in
          let kept : block_at after i ≡ words_of outcome l =
          rw here (kept_block s.words j (key_of request) (words_of outcome l) h.size small_slot (words_length outcome l)) in
          let both : Some request ≡ Some q = sym is_request ∙ ap (λ (k : ℕ). unpacked (k - 1)) (sym key) ∙ is in
          let same : request ≡ q = cc in
          rw (← same, kept) (told ∙ sym kept_said)
      slot i small held clean q is false e =
          let other : i ≡ j → ⊥ = eqb-false i j e in
          let key : key_at after i ≡ key_at s.words i =
          kept_key_other s.words j (key_of request) (words_of outcome l) h.size small_slot i small other in
          let same : block_at after i ≡ block_at s.words i =
          kept_block_other s.words j (key_of request) (words_of outcome l) h.size small_slot i other in
          let clean' : Clean s.unnoticed (list_of (block_at s.words i)) = rw same at clean in
          rw same (h.fresh i small (λ none. held (key ∙ none)) clean' q (ap (λ (k : ℕ). unpacked (k - 1)) (sym key) ∙ is))

-- the memory that is handed in, where its extent is the book's, is today's
module _ (s : State) (base : ℕ) (memory : List ℕ) where
  pub handed_today :
      (record { base = base; length = length memory }) ≡ s.extent → today (handing s base memory) ≡ memory
  handed_today is =
      let here : s.extent.base ≡ base = sym (ap (λ (e : Extent). e.base) is) in
      let long : s.extent.length ≡ length memory = sym (ap (λ (e : Extent). e.length) is) in
      rw (here, long) (values_same _ (λ j. get_or memory j 0) (length memory) 0 (λ j low high. byte j (omega arith)) ∙ values_list memory)
    where
      byte :
          (j : ℕ) → j < length memory
          → (if within base (length memory) (base + j) && not (eqb (get_or memory (base + j - base) 0) (s.memory (base + j)))
          then get_or memory (base + j - base) 0
          else s.memory (base + j))
          ≡ get_or memory j 0
      byte j few =
          let back : base + j - base ≡ j = omega arith in
          let low : leb base (base + j) ≡ true = le-leb base (base + j) (omega arith) in
          let high : ltb (base + j) (base + length memory) ≡ true = lt-ltb (base + j) (base + length memory) (omega arith) in
          rw (back, low, high) (go (eqb (get_or memory j 0) (s.memory (base + j))) refl)
        where
          go :
              (t : Bool) → eqb (get_or memory j 0) (s.memory (base + j)) ≡ t
              → (if true && true && not t then get_or memory j 0 else s.memory (base + j)) ≡ get_or memory j 0
          go true e = sym (eqb-true _ _ e)
          go false e = refl

-- an ask that is accepted, on a bench whose memory is the one handed in
module _ (s : State) (h : Sound s) (base : ℕ) (memory : List ℕ) (request : Request) (narrow : request.stream.number < 2 ^ 32)
    (is_today : (record { base = base; length = length memory }) ≡ s.extent → today s ≡ memory) (asked : Asked) (after : List ℕ)
    (promise : Asks s.words base memory request asked after) (accepted : Accepted asked.reply) where
  pub accepted_sound : Sound (holding s after)
  accepted_sound =
      let p = passed s.words base memory request asked after promise accepted in
      let extent : (record { base = base; length = length memory }) ≡ s.extent
      = same_extent s.words base (length memory) p.same ∙ h.extent in
      let is_memory : today s ≡ memory = is_today extent in
      let here : s.extent.base ≡ base = sym (ap (λ (e : Extent). e.base) extent) in
      let told = looked_is s.words base memory request p.well p.same p.third in
      let ran = ruled (registers_of s.words) base memory request in
      let told' : looked_up s.registers s.extent.base (today s) request ≡ answered ran
      = rw (is_memory, here, ← h.registers) told in
      rw p.left
      (by_test After (ltb (slot_of s.words request) (slots_of s.words)) (λ kept. h)
      (λ past. rw told (by_room (ltb (empty_slot s.words) (slots_of s.words)) refl (ltb-false _ _ past) p.third told')))
    where
      After : List ℕ → Type 0
      After words = Sound (holding s words)

      -- no slot has the request's key where the search finds none
      unheld : slots_of s.words ≤ slot_of s.words request → (i : ℕ) → i < slots_most → key_at s.words i ≡ key_of request → ⊥
      unheld past i small is =
          let held : key_at s.words i ≡ 0 → ⊥ = λ none. omega arith in
          let inside = (held_to s.words i small (h.well.slots i small) held).inside in
          let low = first_low (slots_of s.words) s.words (key_of request) 0 i is (omega arith) (omega arith) in
          omega arith

      back : refusal3 request ≡ false → unpacked (key_of request - 1) ≡ Some request
      back third =
          let same : packed request + 1 - 1 ≡ packed request = omega arith in
          rw same (packing_loses_nothing request (record { stream = narrow; substream = third }))

      by_room :
          (room : Bool) → ltb (empty_slot s.words) (slots_of s.words) ≡ room → slots_of s.words ≤ slot_of s.words request
          → refusal3 request ≡ false → {outcome : Outcome} {l : Pieces}
          → looked_up s.registers s.extent.base (today s) request ≡ record { answer = Ok outcome; list = l }
          → Sound (holding s (now_holding room s.words (empty_slot s.words) (key_of request) (Ok outcome) l))
      by_room true e past third told = kept_sound s h request (empty_slot s.words) (ltb-true _ _ e) (unheld past) (back third) told
      by_room false e past third told = h

-- any event
module _ (s : State) (h : Sound s) where
  notice_sound :
      (begin size : ℕ) (says : Result ⊤ Refusal) (after : List ℕ) → Noticed s.words begin size says after → Sound (noticing says s begin size after)
  notice_sound begin size (Err n) after promise =
      same_sound s after ((holds_what_it_held n).noticed s.words begin size after promise) h
  notice_sound begin size (Ok tt) after promise =
      let is : after ≡ struck_from s.words begin size slots_most 0 = rw (← promise.result) at promise.book in
      rw is (struck_sound begin size s h)

  ask_sound :
      (base : ℕ) (memory : List ℕ) (request : Request) (asked : Asked) (after : List ℕ) → request.stream.number < 2 ^ 32
      → Asks s.words base memory request asked after → Sound (asking asked.reply s base memory after)
  ask_sound base memory request asked after narrow promise = go asked.reply refl
    where
      accepted : Accepted asked.reply → Sound (holding (handing s base memory) after)
      accepted so =
          accepted_sound (handing s base memory) (edit_sound s (differs s base memory) (handed base memory) h) base memory request narrow (handed_today s base memory) asked after promise so

      go : (told : Result Reply Refusal) → asked.reply ≡ told → Sound (asking told s base memory after)
      go (Err n) is = same_sound s after ((holds_what_it_held n).asked_for s.words base memory request asked after promise is) h
      go (Ok (reply.KeptBefore outcome)) is = accepted (λ n other. let z : ◌≡◌ {A = ℕ} 0 1 = cc in absurd (omega arith))
      go (Ok (reply.NewlyKept outcome)) is = accepted (λ n other. let z : ◌≡◌ {A = ℕ} 0 1 = cc in absurd (omega arith))
      go (Ok (reply.NotKept outcome)) is = accepted (λ n other. let z : ◌≡◌ {A = ℕ} 0 1 = cc in absurd (omega arith))

-- an accepted opening has passed its refusals
accepted_parts :
    (r : Registers) (e : Extent) (slots : ℕ) → open_says r e slots ≡ Ok tt
    → (refusal1 r ≡ false) × (refusal2 e ≡ false) × (slots ≡ 0 → ⊥) × (slots ≤ slots_most)
unfolding open_says
accepted_parts r e slots =
    by_test Parts (refusal1 r) (λ first. refused)
    (λ first. by_test Parts (refusal2 e) (λ second. refused)
    (λ second. by_test Parts (eqb slots 0 || ltb slots_most slots) (λ bad. refused)
    (λ good is.
    let some = neither _ _ good in
    (first, second, eqb-false slots 0 some.0, ltb-false slots_most slots some.1))))
  where
    Parts : Result ⊤ Refusal → Type 0
    Parts says = says ≡ Ok tt → (refusal1 r ≡ false) × (refusal2 e ≡ false) × (slots ≡ 0 → ⊥) × (slots ≤ slots_most)

    refused : {A : Type 0} {n : Refusal} → ◌≡◌ {A = Result ⊤ Refusal} (Err n) (Ok tt) → A
    refused e = let z : ◌≡◌ {A = ℕ} 0 1 = cc in absurd (omega arith)

module _ (s : State) (r : Registers) (e : Extent) (slots : ℕ) (narrow : Narrow r) where
  opened_sound : open_says r e slots ≡ Ok tt → Sound (opening (Ok tt) s r e (opened_with r e slots))
  unfolding opened_with
  opened_sound is =
      let parts = accepted_parts r e slots is in
      record {
        size = opened_length r e slots;
        well = open_well r e slots narrow.each parts.0 parts.1 parts.2 parts.3;
        registers = opened_registers r e slots narrow.each;
        extent = refl;
        fresh = λ i small held clean request of. absurd (held (opened_empty r e slots i small));
      }

  pub begin_sound : (before after : List ℕ) → Opened r e slots before (Ok tt) after → Sound (opening (Ok tt) s r e after)
  begin_sound before after promise =
      let is : after ≡ opened_with r e slots = rw (← promise.result) at promise.book in
      rw is (opened_sound (sym promise.result))

  open_sound : (says : Result ⊤ Refusal) (after : List ℕ) → Sound s → Opened r e slots s.words says after → Sound (opening says s r e after)
  open_sound (Err n) after h promise = same_sound s after ((holds_what_it_held n).opened r e slots s.words after promise) h
  open_sound (Ok done) after h promise = begin_sound s.words after promise

event_sound : {s t : State} → Event s t → Sound s → Sound t
event_sound {s = s} (edit at other) h = edit_sound s at other h
event_sound {s = s} (notice begin size says after promise) h = notice_sound s h begin size says after promise
event_sound {s = s} (ask base memory request asked after narrow promise) h = ask_sound s h base memory request asked after narrow promise
event_sound {s = s} (report buffer says after promise) h = h
event_sound {s = s} (opens r e slots says after narrow promise) h = open_sound s r e slots narrow says after h promise

history_sound : {s t : State} → History s t → Sound s → Sound t
history_sound start h = h
history_sound (more before event) h = event_sound event (history_sound before h)

-- one event more
pub later : {s t : State} → Begun s → Event s t → Begun t
later began event =
    record {
      before = began.before;
      registers = began.registers;
      extent = began.extent;
      slots = began.slots;
      after = began.after;
      narrow = began.narrow;
      accepted = began.accepted;
      since = more began.since event;
    }

pub begun_sound : (s : State) → Begun s → Sound s
begun_sound s began =
    history_sound began.since
    (begin_sound began.before began.registers began.extent began.slots began.narrow began.before.words began.after began.accepted)
