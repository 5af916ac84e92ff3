-- The claims of specs/Claims.antt, each under its own name.
-- Assumes: nothing.
use Prim.Native.Nat.{ℕ, zero, suc, ◌+◌, ◌^◌, ◌≤◌, ◌<◌}
use Rattle.answers.specs.declared.refusals.Refusal.TheVariants as refusal
use Rattle.answers.specs.declared.refusals.Refusal.{Refusal}
use native.Mathlib.Omega.{arith}
use mathlib.Core.Path.{◌≡◌, refl, sym, ap, ◌∙◌}
use mathlib.Core.Bool.{Bool, true, false}
use mathlib.Core.List.{List, []}
use mathlib.Core.Logic.{◌⊎◌, inl, inr}
use lib.ListN.{length, get_or, set}
use lib.Pow.{pow_mono}
use lib.Seq.{get_or-set_other}
use Rattle.std.specs.Prelude.{if◌then◌else◌, Err, Ok, Result}
use Rattle.bit_fields.proofs.ChoiceLaws.{alike, either}
use Rattle.ids.specs.Ids.{refusal3}
use Rattle.ids.specs.declared.Request.{Request}
use Rattle.registers.specs.Sizes.{refusal1, oas_size, size_of}
use Rattle.registers.specs.declared.Registers.{Registers}
use Rattle.registers.proofs.SizesLaws.{oas_at_most}
use Rattle.memory_image.specs.Extent.{extent_of, refusal2, address_top, fetched}
use Rattle.memory_image.specs.declared.Extent.{Extent}
use Rattle.memory_image.specs.Rule.{run, and_then, Agree, Lies}
use Rattle.memory_image.specs.Words.{bytes, word}
use Rattle.memory_image.specs.declared.Piece.{Piece}
use Rattle.memory_image.proofs.Claims.{depends_on_list as rule_depends, listed_lies as rule_lies, listed_few as rule_few, then_gives_and_lists}
use Rattle.memory_image.proofs.RunLaws.{run_every, run_done}
use Rattle.answers.specs.Layout.{pieces_most, kind_at, values_at, count_at, pieces_at}
use Rattle.answers.specs.Outcome.{fetch_event}
use Rattle.answers.specs.Pieces.{none, pieces_of, EachPiece}
use Rattle.answers.specs.Proper.{proper_outcome, ProperAnswer}
use Rattle.answers.specs.declared.Outcome.{Outcome}
use Rattle.answers.specs.declared.Outcome.TheVariants.{Translate, Bypass, BypassGlobal, Abort, Fault, Quiet, Unserved}
use Rattle.answers.specs.declared.Pieces.{Pieces}
use Rattle.answers.proofs.PiecesLaws.{each_pieces, pieces_each, pieces_none, pieces_length}
use Rattle.answers.proofs.ProperLaws.{Below, proper_pieces_lem}
use Rattle.answer_words.specs.AnswerWords.{aborted, outcome_of, pieces_in, list_of, stands}
use Rattle.answer_words.proofs.AnswerWordsLaws.{outcome_back, list_back, stands_proper}
use Rattle.stream_table.specs.StreamTable.{stream_rule, is_linear, linear_at}
use Rattle.stream_entry.specs.StreamEntry.{ste_rule, not_there}
use Rattle.stream_table.proofs.StreamLaws.{stream_unread}
use Rattle.lookup_claims.specs.Claims.{DependsOnList, ListedLies, DescriptorLong, ListedFew, RefusedExactly, OneAnswer, OnePart, FaultSaysWhich, NothingRead, AnswersProper, NoneIsNotZero, KeptIsReadBack, AnyAddressStands}
use Rattle.lookup.specs.Lookup.{from_ste, from_entry, lookup_rule, ruled, refused_with, answered, looked_up}
use Rattle.lookup.specs.declared.Looked.{Looked}
use Rattle.lookup.proofs.RuledLaws.{lookup_few, lookup_every, ruled_few, ruled_proper}
use Rattle.lookup_claims.specs.Failed.{not_fetched}
use Rattle.lookup_claims.proofs.FaultLaws.{run_ends, Told, lookup_told}

-- the refusals
pub refused_exactly : (r : Registers) (base : ℕ) (memory : List ℕ) (request : Request) → RefusedExactly r base memory request
unfolding looked_up
refused_exactly r base memory request =
    record {
      first = λ a. simp a;
      second = λ a b. simp (a, b);
      third = λ a b c. simp (a, b, c);
      answer = λ a b c. simp (a, b, c);
    }

-- what holds of a list with nothing in it, and of what the rules list, holds of the list that is answered
module _ (P : Looked → Type 0) (r : Registers) (base : ℕ) (memory : List ℕ) (request : Request) where
  by_cases : ((n : Refusal) → P (refused_with n)) → P (answered (ruled r base memory request)) → P (looked_up r base memory request)
  unfolding looked_up
  by_cases refused known =
      either P (refusal1 r) (refused refusal.Registers)
      (either P (refusal2 (extent_of base memory)) (refused refusal.Memory) (either P (refusal3 request) (refused refusal.Substream) known))

nothing_each : (P : Piece → Type 0) → EachPiece P none
unfolding none
nothing_each P i few = absurd (omega arith)

pub listed_lies : ListedLies
unfolding ruled
listed_lies r base memory request =
    by_cases (λ l. EachPiece (Lies (extent_of base memory) (2 ^ oas_size r)) l.list) r base memory request
    (λ n. nothing_each (Lies (extent_of base memory) (2 ^ oas_size r)))
    (each_pieces _ (ruled r base memory request).list (ruled_few r base memory request)
    (rule_lies Outcome (extent_of base memory) (2 ^ oas_size r) (bytes memory) (lookup_rule r request)))

pub listed_few : ListedFew
unfolding ruled pieces_of none
listed_few r base memory request =
    by_cases (λ l. (l.list.count ≤ pieces_most) × EachPiece DescriptorLong l.list) r base memory request
    (λ n. (omega arith, nothing_each DescriptorLong)) (
      ruled_few r base memory request,
      each_pieces _ (ruled r base memory request).list (ruled_few r base memory request)
          (run_every (extent_of base memory) (2 ^ oas_size r) (bytes memory) (λ n. (n ≡ 8) ⊎ (n ≡ 64)) (lookup_rule r request)
          (lookup_every (λ n. (n ≡ 8) ⊎ (n ≡ 64)) (inl refl) (inr refl) r request)),
    )

-- list dependence: the refusals read no byte, and the rules depend on what they list
pub depends_on_list : DependsOnList
unfolding looked_up ruled
depends_on_list r base memory other request same agree =
    rw same
    (alike Depends (refusal1 r) (λ agree. refl)
    (alike Depends (refusal2 (extent_of base memory)) (λ agree. refl) (alike Depends (refusal3 request) (λ agree. refl) walked)) agree)
  where
    Depends : Looked → Looked → Type 0
    Depends here there = EachPiece (Agree (extent_of base memory) (bytes memory) (bytes other)) here.list → there ≡ here

    walked :
        Depends (answered (run (extent_of base memory) (2 ^ oas_size r) (bytes memory) (lookup_rule r request)))
        (answered (run (extent_of base memory) (2 ^ oas_size r) (bytes other) (lookup_rule r request)))
    walked agree =
        let fetched = rule_few Outcome (extent_of base memory) (2 ^ oas_size r) (bytes memory) 4 (lookup_rule r request) (lookup_few r request) in
        let list = (run (extent_of base memory) (2 ^ oas_size r) (bytes memory) (lookup_rule r request)).list in
        let few : length list ≤ pieces_most = omega arith in
        rw (rule_depends Outcome (extent_of base memory) (2 ^ oas_size r) (bytes memory) (bytes other) (lookup_rule r request) (pieces_each _ list few agree))

pub one_answer : OneAnswer
one_answer r base memory request x y first second = first ∙ sym second

pub one_part : OnePart
one_part memory x y at first second =
    (first.contents ∙ sym second.contents, first.block ∙ sym second.block, first.offset ∙ sym second.offset)

-- a fault names the one descriptor that wasn't fetched
module _ (r : Registers) (base : ℕ) (memory : List ℕ) (request : Request) where
  ruled_told : Told (extent_of base memory) (2 ^ oas_size r) (ruled r base memory request).answer (not_fetched r base memory request)
  unfolding ruled not_fetched
  ruled_told =
      run_ends (extent_of base memory) (2 ^ oas_size r) (Told (extent_of base memory) (2 ^ oas_size r)) (bytes memory) (lookup_rule r request)
      (lookup_told (extent_of base memory) (2 ^ oas_size r) r request)

  -- an answer is what the rules give
  answer_told : (outcome : Outcome) → (looked_up r base memory request).answer ≡ Ok outcome → Told (extent_of base memory) (2 ^ oas_size r) outcome (not_fetched r base memory request)
  answer_told outcome =
      by_cases (λ l. l.answer ≡ Ok outcome → Told (extent_of base memory) (2 ^ oas_size r) outcome (not_fetched r base memory request)) r base memory request
      (λ n said. let z : ◌≡◌ {A = ℕ} 0 1 = cc in absurd (omega arith))
      (λ said. let same : (ruled r base memory request).answer ≡ outcome = cc in rw same at ruled_told)

  none_failed :
      (outcome : Outcome) → ((event address : ℕ) → outcome ≡ Fault event address → ⊥) → (failed : List Piece)
      → Told (extent_of base memory) (2 ^ oas_size r) outcome failed → failed ≡ []
  none_failed (Translate t) other failed told = told
  none_failed (Bypass ste) other failed told = told
  none_failed BypassGlobal other failed told = told
  none_failed (Abort event) other failed told = told
  none_failed (Fault event address) other failed told = absurd (other event address refl)
  none_failed Quiet other failed told = told
  none_failed (Unserved n) other failed told = told

  pub fault_says_which : FaultSaysWhich r base memory request
  fault_says_which =
      record {
        named = λ event address said. answer_told (Fault event address) said;
        unnamed = λ outcome said other. none_failed outcome other (not_fetched r base memory request) (answer_told outcome said);
      }

pub nothing_read : NothingRead
unfolding ruled lookup_rule from_ste
nothing_read r base memory request unread =
    by_cases (λ l. l.list ≡ none) r base memory request (λ n. refl)
    (let ended = stream_unread r request.stream.number unread in
    rw ((then_gives_and_lists (Result ℕ Outcome) Outcome _ _ _ (from_ste r request.substream) (stream_rule r request.stream.number)).1, ended.1, run_done, run_done, pieces_none))

-- what the rules give is proper: each listed piece ends at or below 2^(OAS size), which is at most 2^52
module _ (r : Registers) (base : ℕ) (memory : List ℕ) (request : Request) where
  proper_answer : ProperAnswer (ruled r base memory request).answer (pieces_of (ruled r base memory request).list)
  unfolding ruled pieces_of
  proper_answer =
      record {
        outcome_proper = ruled_proper r base memory request;
        list_proper = proper_pieces_lem (pieces_of l) few ends;
        array_full = pieces_length l;
      }
    where
      e : Extent
      e = extent_of base memory

      l : List Piece
      l = (ruled r base memory request).list

      few : length l ≤ pieces_most
      few = ruled_few r base memory request

      ends : EachPiece Below (pieces_of l)
      ends i counted =
          let lies = each_pieces (Lies e (2 ^ oas_size r)) l few (rule_lies Outcome e (2 ^ oas_size r) (bytes memory) (lookup_rule r request)) i counted in
          let top : 2 ^ oas_size r ≤ address_top = pow_mono (oas_at_most r) in
          omega (arith, lies.below)

pub answers_proper : AnswersProper
answers_proper r base memory request outcome l is =
    by_cases (λ looked. looked ≡ record { answer = Ok outcome; list = l } → ProperAnswer outcome l) r base memory request
    refused known is
  where
    refused : (n : Refusal) → refused_with n ≡ record { answer = Ok outcome; list = l } → ProperAnswer outcome l
    refused n said =
        let same : Err n ≡ Ok outcome = ap (λ (looked : Looked). looked.answer) said in
        let z : ◌≡◌ {A = ℕ} 0 1 = cc in
        absurd (omega arith)

    known : answered (ruled r base memory request) ≡ record { answer = Ok outcome; list = l } → ProperAnswer outcome l
    known said =
        let same : Ok (ruled r base memory request).answer ≡ Ok outcome = ap (λ (looked : Looked). looked.answer) said in
        let same_outcome : (ruled r base memory request).answer ≡ outcome = cc in
        let same_list : pieces_of (ruled r base memory request).list ≡ l = ap (λ (looked : Looked). looked.list) said in
        rw (same_outcome, same_list) at (proper_answer r base memory request)

pub none_is_not_zero : NoneIsNotZero
unfolding looked_up refusal1 refusal2 refusal3 ruled lookup_rule from_ste from_entry stream_rule ste_rule not_there run and_then fetched word oas_size size_of is_linear linear_at
none_is_not_zero = (refl, refl)

pub kept_is_read_back : (outcome : Outcome) (l : Pieces) → KeptIsReadBack outcome l
kept_is_read_back outcome l =
    record {
      same_outcome = outcome_back outcome l;
      same_list = list_back outcome l;
      standing = λ proper. stands_proper outcome l proper.array_full proper.outcome_proper proper.list_proper;
    }

-- the address's word is that of a value, and the others are read as they were
module _ (ws : List ℕ) (address : ℕ) where
  abbrev put : List ℕ
  put = set ws (values_at + 1) address

  as_it_was : (j : ℕ) → (j ≡ values_at + 1 → ⊥) → get_or put j 0 ≡ get_or ws j 0
  as_it_was j other = get_or-set_other ws (values_at + 1) j address 0 other

  pieces_as_they_were : (m i : ℕ) → values_at + 1 < i → pieces_in put m i ≡ pieces_in ws m i
  pieces_as_they_were zero i past = refl
  pieces_as_they_were (suc m) i past =
      rw (as_it_was i (λ e. omega arith), as_it_was (i + 1) (λ e. omega arith), pieces_as_they_were m (i + 2) (omega arith))

  list_as_it_was : list_of put ≡ list_of ws
  unfolding list_of
  list_as_it_was = rw (as_it_was count_at (λ e. omega arith), pieces_as_they_were pieces_most pieces_at (omega arith))

  any_address : (event a b : ℕ) → proper_outcome (aborted event a) ≡ proper_outcome (aborted event b)
  unfolding aborted proper_outcome
  any_address event a b = go (fetch_event event)
    where
      go : (t : Bool) → proper_outcome (if t then Fault event a else Abort event) ≡ proper_outcome (if t then Fault event b else Abort event)
      go true = refl
      go false = refl

  outcome_as_proper : get_or ws kind_at 0 ≡ 4 → proper_outcome (outcome_of put) ≡ proper_outcome (outcome_of ws)
  unfolding outcome_of
  outcome_as_proper is =
      rw (as_it_was kind_at (λ e. omega arith), as_it_was values_at (λ e. omega arith), is)
      (any_address (get_or ws values_at 0) (get_or put (values_at + 1) 0) (get_or ws (values_at + 1) 0))

pub any_address_stands : AnyAddressStands
unfolding stands
any_address_stands ws address is =
    rw (as_it_was ws address kind_at (λ e. omega arith), outcome_as_proper ws address is, list_as_it_was ws address)
