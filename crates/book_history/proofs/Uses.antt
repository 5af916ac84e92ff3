-- What follows from the claims: specs/Uses.antt, each from the claims that it names.
-- Assumes: nothing.
use Rattle.answers.specs.declared.refusals.Refusal.{Refusal}
use Rattle.answers.specs.declared.refusals.Refusal.TheVariants as refusal
use Prim.Native.Nat.{ℕ, zero, suc, ◌+◌, ◌≤◌, ◌<◌, ◌-◌}
use native.Mathlib.Omega.{arith}
use mathlib.Core.Path.{◌≡◌, refl, sym, ap, ◌∙◌}
use mathlib.Core.Bool.{Bool, true, false}
use mathlib.Core.Logic.{◌⊎◌, inl, inr}
use lib.Dec.{ltb}
use lib.ListN.{get_or, length}
use Rattle.std.specs.Prelude.{if◌then◌else◌, Err, Ok, Result}
use Rattle.ids.specs.Packing.{packed}
use Rattle.ids.proofs.Claims.{equal_words_only, one_word_each, none_is_not_zero}
use Rattle.memory_image.specs.declared.Piece.{Piece}
use Rattle.answers.specs.Pieces.{nothing}
use Rattle.lookup.specs.Lookup.{looked_up, answered, ruled}
use Rattle.lookup.specs.declared.Looked.{Looked}
use Rattle.lookup_claims.proofs.Claims.{depends_on_list}
use Rattle.book_words.specs.Layout.{book_words, slots_of, key_at, key_of, opened_with}
use Rattle.book_words.proofs.KeepsLaws.{opened_length}
use Rattle.book_words.proofs.WellLaws.{well_to}
use Rattle.book.specs.Book.{ask_result, notice_says, shares}
use Rattle.book.specs.declared.Reply.{Reply}
use Rattle.book.specs.declared.Reply.TheVariants as reply
use Rattle.report.specs.Report.{Reported, report_text}
use Rattle.report.proofs.Claims.{report_fits}
use Rattle.book_history.specs.History.{State, Begun}
use Rattle.book_history.specs.Demand3.{answer_in, looked_in, KeptIn, Empty, NewIn}
use Rattle.book_history.specs.Uses.{
  AskedByTheRules,
  AddressCompared,
  NoticeOutside,
  EmptyNoticeStrikesNothing,
  NothingHeldAtFirst,
  FirstSlotFirst,
  HeldIsItsOwn,
  OneSlotOneRequest,
  NoneAndZeroApart,
  EndsShared,
  NeverRefusedSeven,
  ReportAlwaysFits,
}
use Rattle.book_history.proofs.Demand2.{answer_of_the_rules, each_lies}
use Rattle.book_history.proofs.AskedLaws.{passed, kept_from_its_slot, new_in_lowest}
use Rattle.book_history.proofs.Demand3.{never_stale, strikes_exactly}
use Rattle.book_history.proofs.Claims.{still_good, shares_means, starts_empty, never_malformed, only_refused_for_room}

pub asked_by_the_rules : AskedByTheRules
asked_by_the_rules s began base memory request narrow clean asked after promise accepted = go asked.reply refl
  where
    is : looked_in asked ≡ looked_up s.registers base memory request
    is = never_stale s began base memory request narrow clean asked after promise accepted

    go : (told : Result Reply Refusal) → asked.reply ≡ told → looked_in asked ≡ answered (ruled s.registers base memory request)
    go (Err n) so = absurd (accepted n so)
    go (Ok (reply.KeptBefore outcome)) so = answer_of_the_rules s.registers base memory request (looked_in asked) is outcome (ap answer_in so)
    go (Ok (reply.NewlyKept outcome)) so = answer_of_the_rules s.registers base memory request (looked_in asked) is outcome (ap answer_in so)
    go (Ok (reply.NotKept outcome)) so = answer_of_the_rules s.registers base memory request (looked_in asked) is outcome (ap answer_in so)

-- whole answers are compared, and the address is part of one
pub address_compared : (event address : ℕ) → AddressCompared event address
address_compared event address =
    record {
      by_the_list = λ r base memory other request same agree said.
          ap (λ (l : Looked). l.answer) (depends_on_list r base memory other request same agree) ∙ said;
      asked_for = λ s began base memory request narrow clean asked after promise accepted said.
          ap (λ (l : Looked). l.answer) (sym (never_stale s began base memory request narrow clean asked after promise accepted)) ∙ said;
      held = λ s began i small full clean request is said.
          ap (λ (l : Looked). l.answer) (still_good s began i small full clean request is) ∙ ap Ok said;
    }

-- a test that cannot hold doesn't
never : (b : Bool) → (b ≡ true → ⊥) → b ≡ false
never true not_so = absurd (not_so refl)
never false not_so = refl

-- an address that is in a piece and in a notice is shared
both_have : (start size : ℕ) (p : Piece) (a : ℕ) → p.address ≤ a → a < p.address + p.length → start ≤ a → a < start + size → shares start size p ≡ true
both_have start size p a from to since until =
    (shares_means start size p).1 (record { address = a; from = from; to = to; noticed_from = since; noticed_to = until })

pub ends_shared : (p : Piece) → EndsShared p
ends_shared p =
    record {
      first = λ some. both_have p.address 1 p p.address (omega arith) (omega arith) (omega arith) (omega arith);
      last = λ some. both_have (p.address + p.length - 1) 1 p (p.address + p.length - 1) (omega arith) (omega arith) (omega arith) (omega arith);
      before = λ start size below.
          never _ (λ is. let one = (shares_means start size p).0 is in let a = one.from in let b = one.noticed_to in omega arith);
      after = λ start size above.
          never _ (λ is. let one = (shares_means start size p).0 is in let a = one.to in let b = one.noticed_from in omega arith);
    }

pub notice_outside : NoticeOutside
notice_outside r base memory request start size outside j few =
    go outside (each_lies r base memory request (looked_up r base memory request) refl j few)
  where
    go :
        (start + size ≤ base) ⊎ (base + length memory ≤ start)
        → (base ≤ (get_or (looked_up r base memory request).list.piece j nothing).address)
        × ((get_or (looked_up r base memory request).list.piece j nothing).address + (get_or (looked_up r base memory request).list.piece j nothing).length ≤ base + length memory)
        → shares start size (get_or (looked_up r base memory request).list.piece j nothing) ≡ false
    go (inl below) lies = let from = lies.0 in (ends_shared _).before start size (omega arith)
    go (inr above) lies = let to = lies.1 in (ends_shared _).after start size (omega arith)

-- notices that strike nothing
pub empty_notice_strikes_nothing : EmptyNoticeStrikesNothing
empty_notice_strikes_nothing ws start after promise x =
    (strikes_exactly ws start 0 after promise).rest x
    (λ i small is held read. let a = read.shared.noticed_from in let b = read.shared.noticed_to in omega arith)

pub nothing_held_at_first : NothingHeldAtFirst
nothing_held_at_first r e slots before opened opens start size after promise x =
    (strikes_exactly opened start size after promise).rest x
    (λ i small is held read. held (starts_empty r e slots before opened opens i small))

-- a number that isn't 0
above_zero : (n : ℕ) → (n ≡ 0 → ⊥) → 0 < n
above_zero zero not_so = absurd (not_so refl)
above_zero (suc n) not_so = omega arith

-- asks
pub first_slot_first : FirstSlotFirst
first_slot_first r e slots before opened opens base memory request asked after promise accepted =
    let is : opened ≡ opened_with r e slots = rw (← opens.result) at opens.book in
    let long : length opened ≡ book_words = rw is (opened_length r e slots) in
    let well = well_to opened (passed opened base memory request asked after promise accepted).well in
    let few = well.few in
    let some : 0 < slots_of opened = above_zero (slots_of opened) well.some in
    let none : (i : ℕ) → KeptIn opened request i → ⊥
    = λ i kept.
    let below = kept.below in
    let empty = starts_empty r e slots before opened opens i (omega arith) in
    let key = kept.key in
    omega arith in
    let empty : key_at opened 0 ≡ 0 = starts_empty r e slots before opened opens 0 (omega arith) in
    let new = (new_in_lowest opened base memory request asked after long promise accepted none).room 0 (some, empty) in
    first new (some, empty)
  where
    first : (new : NewIn opened request asked after) → Empty opened 0 → key_at after 0 ≡ key_of request
    first new empty = go new.slot refl new.key new.lowest
      where
        go :
            (i : ℕ) → new.slot ≡ i → key_at after new.slot ≡ key_of request → ((j : ℕ) → j < new.slot → Empty opened j → ⊥)
            → key_at after 0 ≡ key_of request
        go zero at key lowest = rw at at key
        go (suc i) at key lowest = absurd (lowest 0 (omega arith) empty)

pub held_is_its_own : HeldIsItsOwn
held_is_its_own ws i request below held stands base memory asked after promise accepted =
    let word : packed request ≡ key_at ws i - 1 = (one_word_each (key_at ws i - 1) request stands).0 in
    let some : 0 < key_at ws i = above_zero (key_at ws i) held in
    (kept_from_its_slot ws base memory request asked after promise accepted i (record { below = below; key = omega arith })).0

pub one_slot_one_request : OneSlotOneRequest
one_slot_one_request ws i q r proper_q proper_r kept also =
    let a = kept.key in
    let b = also.key in
    equal_words_only q r proper_q proper_r (omega arith)

pub none_and_zero_apart : NoneAndZeroApart
none_and_zero_apart ws i stream kept also =
    let a = kept.key in
    let b = also.key in
    none_is_not_zero stream (omega arith)

-- after any history
pub never_refused_seven : (s : State) → Begun s → NeverRefusedSeven s
unfolding ask_result notice_says
never_refused_seven s began =
    record {
      noticed = λ start size says after promise. promise.result ∙ simp (never_malformed s began);
      asked_for = λ base memory request asked after promise other. promise.result ∙ simp (never_malformed s began, other);
    }

pub report_always_fits : ReportAlwaysFits
report_always_fits s began before says after promise enough =
    go (ltb (length before) (length (report_text s.words))) refl
  where
    is : says ≡ (if ltb (length before) (length (report_text s.words)) then Err refusal.Room else Ok (length (report_text s.words)))
    is = only_refused_for_room s began before says after promise

    go : (t : Bool) → ltb (length before) (length (report_text s.words)) ≡ t → says ≡ Ok (length (report_text s.words))
    go true e =
        let refused : says ≡ Err refusal.Room = is ∙ rw e in
        let there : Reported s.words before (Err refusal.Room) after = rw refused at promise in
        absurd (report_fits s.words before after enough there)
    go false e = is ∙ rw e
