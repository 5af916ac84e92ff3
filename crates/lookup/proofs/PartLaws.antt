-- Where the STE lies, and the part that is handed back, on plain values.
--     listed_at                   the first listed piece of 64 bytes is the STE
--     ste_inside, ste_end_fits    what is found lies in the memory
--     part_none, part_whole       the part handed back: an empty one; the 64 bytes from a place on
--     ste_part_ways               what the check of `ste_part` cites
-- Assumes: nothing.
use Prim.Native.Nat.{ℕ, zero, suc, ◌+◌, ◌-◌, ◌^◌, ◌≤◌, ◌<◌}
use Rattle.ids.specs.declared.SubstreamId.{SubstreamId}
use native.Mathlib.Nat.{add-sub_cancel_left, add-zero}
use native.Mathlib.Omega.{arith}
use mathlib.Core.Path.{◌≡◌, refl, sym, ap, ◌∙◌}
use mathlib.Core.Bool.{Bool, true, false}
use mathlib.Core.List.{List, [], ◌∷◌, ◌++◌, append_assoc}
use borrow.Author.Tests.{ne_eqb}
use lib.Dec.{eqb}
use lib.ListN.{length, get_or, take, drop, length-append}
use lib.Seq.{get_or-append-add}
use denote.Ref.{Bor}
use Rattle.std.specs.Prelude.{if◌then◌else◌, Err, None, Ok, Option, Result, Some}
use Rattle.bit_fields.proofs.ChoiceLaws.{alike, either}
use Rattle.ids.specs.Ids.{refusal3}
use Rattle.ids.specs.declared.Request.{Request}
use Rattle.registers.specs.Sizes.{refusal1, oas_size}
use Rattle.registers.specs.declared.Registers.{Registers}
use Rattle.memory_image.specs.Extent.{extent_of, fetched, refusal2}
use Rattle.memory_image.specs.Words.{bytes}
use Rattle.memory_image.specs.Rule.{Rule, done, fetch, Ran, run, Each}
use Rattle.memory_image.specs.declared.Piece.{Piece}
use Rattle.memory_image.proofs.ExtentLaws.{fetched_lies}
use Rattle.memory_image.proofs.RunLaws.{run_done, run_had, run_fault, run_then, run_every}
use Rattle.answers.specs.Layout.{pieces_most}
use Rattle.answers.specs.Outcome.{f_ste_fetch}
use Rattle.answers.specs.Pieces.{none, nothing, padded, pieces_of}
use Rattle.answers.specs.declared.Outcome.{Outcome}
use Rattle.answers.specs.declared.refusals.Refusal.{Refusal}
use Rattle.answers.specs.declared.refusals.Refusal.TheVariants as refusal
use Rattle.answers.specs.declared.Outcome.TheVariants.{Fault}
use Rattle.stream_table.specs.StreamTable.{stream_rule}
use Rattle.stream_table.proofs.StreamLaws.{stream_every}
use Rattle.stream_entry.specs.StreamEntry.{ste_rule}
use Rattle.lookup.specs.Lookup.{from_entry, from_ste, lookup_rule, ruled, looked_up, refused_with}
use Rattle.lookup.specs.Part.{place_of, ste_at_rule, ste_at, ste_from, SteHanded}
use Rattle.lookup.specs.declared.Looked.{Looked}
use Rattle.lookup.proofs.RuledLaws.{ruled_few}

-- the first piece of 64 bytes in a list
abbrev first_long : ℕ → List Piece → Option ℕ
first_long base [] = None
first_long base (p ∷ l) =
    if eqb p.length 64 then Some (p.address - base)
    else first_long base l

module _ (base : ℕ) where
  -- the same with zeros after the list
  one :
      (front : List Piece) (p : Piece) (rest : List Piece) (m : ℕ)
      → ste_from base (front ++ (p ∷ rest)) (suc m) (length front)
      ≡ (if eqb p.length 64 then Some (p.address - base) else ste_from base ((front ++ (p ∷ [])) ++ rest) m (length (front ++ (p ∷ []))))
  unfolding ste_from
  one front p rest m =
      let here : get_or (front ++ (p ∷ rest)) (length front) nothing ≡ p = rw add-zero at (get_or-append-add front (p ∷ rest) 0 nothing) in
      let longer : front ++ (p ∷ rest) ≡ (front ++ (p ∷ [])) ++ rest = sym (append_assoc front (p ∷ []) rest) in
      let on : length front + 1 ≡ length (front ++ (p ∷ [])) = sym (length-append front (p ∷ [])) in
      let after : ste_from base (front ++ (p ∷ rest)) m (length front + 1) ≡ ste_from base ((front ++ (p ∷ [])) ++ rest) m (length (front ++ (p ∷ [])))
      = cc in
      rw here (ap (λ (at : Option ℕ). if eqb p.length 64 then Some (p.address - base) else at) after)

  behind : (front : List Piece) (m : ℕ) (l : List Piece) → length l ≤ m → ste_from base (front ++ padded m l) m (length front) ≡ first_long base l
  unfolding ste_from
  behind front zero [] room = refl
  behind front zero (p ∷ l) room = absurd (omega arith)
  behind front (suc m) [] room = one front nothing (padded m []) m ∙ behind (front ++ (nothing ∷ [])) m [] (omega arith)
  behind front (suc m) (p ∷ l) room =
      one front p (padded m l) m
      ∙ ap (λ (at : Option ℕ). if eqb p.length 64 then Some (p.address - base) else at) (behind (front ++ (p ∷ [])) m l (omega arith))

  -- an L1STD is passed
  passed : (l more : List Piece) → Each (λ p. p.length ≡ 8) l → first_long base (l ++ more) ≡ first_long base more
  passed [] more each = refl
  passed (p ∷ l) more each =
      let other = ne_eqb p.length 64 (λ long. omega (arith, each.0)) in rw other (passed l more each.1)

module _ (r : Registers) (base : ℕ) (memory : List ℕ) where
  -- from where the STE is, the first one fetched is the STE
  found_first :
      (limit : ℕ) (substream : Option SubstreamId) (found : Result ℕ Outcome)
      → first_long base (run (extent_of base memory) limit (bytes memory) (from_ste r substream found)).list
      ≡ (run (extent_of base memory) limit (bytes memory) (place_of base found)).answer
  unfolding from_ste place_of
  found_first limit substream (Err outcome) = rw (run_done, run_done)
  found_first limit substream (Ok ste) = go (fetched (extent_of base memory) limit ste 64) refl
    where
      rest : (ℕ → ℕ) → Rule Outcome
      rest w = from_entry r ste w (ste_rule r substream ste w)

      go :
          (b : Bool) → fetched (extent_of base memory) limit ste 64 ≡ b
          → first_long base (run (extent_of base memory) limit (bytes memory) (fetch ste 8 (done (Fault f_ste_fetch ste)) rest)).list
          ≡ (run (extent_of base memory) limit (bytes memory) (fetch ste 8 (done None) (λ w. done (Some (ste - base))))).answer
      go true test =
          rw (
            run_had (extent_of base memory) limit (bytes memory) ste 8 (done (Fault f_ste_fetch ste)) rest test,
            run_had (extent_of base memory) limit (bytes memory) ste 8 (done None) (λ w. done (Some (ste - base))) test,
            run_done,
          )
      go false test =
          rw (
            run_fault (extent_of base memory) limit (bytes memory) ste 8 (done (Fault f_ste_fetch ste)) rest test,
            run_fault (extent_of base memory) limit (bytes memory) ste 8 (done None) (λ w. done (Some (ste - base))) test,
            run_done,
            run_done,
          )

  module _ (request : Request) where
    abbrev walked : Option ℕ
    walked = (run (extent_of base memory) (2 ^ oas_size r) (bytes memory) (ste_at_rule r base request.stream.number)).answer

    ruled_first : first_long base (ruled r base memory request).list ≡ walked
    unfolding ruled lookup_rule ste_at_rule
    ruled_first =
        let on = run_then (extent_of base memory) (2 ^ oas_size r) (bytes memory) (from_ste r request.substream) (stream_rule r request.stream.number) in
        let at = run_then (extent_of base memory) (2 ^ oas_size r) (bytes memory) (place_of base) (stream_rule r request.stream.number) in
        let eight = run_every (extent_of base memory) (2 ^ oas_size r) (bytes memory) (λ n. n ≡ 8) (stream_rule r request.stream.number)
        (stream_every r request.stream.number (λ n. n ≡ 8) refl) in
        ap (λ (ran : Ran Outcome). first_long base ran.list) on
        ∙ passed base (run (extent_of base memory) (2 ^ oas_size r) (bytes memory) (stream_rule r request.stream.number)).list _ eight
        ∙ found_first (2 ^ oas_size r) request.substream _
        ∙ sym (ap (λ (ran : Ran (Option ℕ)). ran.answer) at)

    none_first : (n : Refusal) → ste_from base (refused_with n).list.piece pieces_most 0 ≡ None
    unfolding none ste_from
    none_first n = refl

    pub listed_at :
        {looked : Looked} → looked ≡ looked_up r base memory request → {at : Option ℕ} → at ≡ ste_from base looked.list.piece pieces_most 0
        → at ≡ ste_at r base memory request
    unfolding looked_up ste_at pieces_of
    listed_at is found =
        found
        ∙ rw is
        (alike Hands (refusal1 r) (none_first refusal.Registers)
        (alike Hands (refusal2 (extent_of base memory)) (none_first refusal.Memory) (alike Hands (refusal3 request) (none_first refusal.Substream) last)))
      where
        Hands : Looked → Option ℕ → Type 0
        Hands looked at = ste_from base looked.list.piece pieces_most 0 ≡ at

        last : ste_from base (padded pieces_most (ruled r base memory request).list) pieces_most 0 ≡ walked
        last = behind base [] pieces_most (ruled r base memory request).list (ruled_few r base memory request) ∙ ruled_first

-- what is found lies in the memory
nowhere : {A : Type 0} {place : ℕ} → None ≡ Some place → A
nowhere is = let z : ◌≡◌ {A = ℕ} 0 1 = cc in absurd (omega arith)

module _ (base : ℕ) (memory : List ℕ) (limit place : ℕ) where
  had_inside :
      (ste : ℕ) → fetched (extent_of base memory) limit ste 64 ≡ true → Some (ste - base) ≡ Some place → place + 64 ≤ length memory
  had_inside ste test is =
      let lies = fetched_lies (extent_of base memory) limit (record { address = ste; length = 64 }) test in
      let from = lies.from in
      let inside = lies.inside in
      let same : ste - base ≡ place = cc in
      omega arith

  place_inside :
      (found : Result ℕ Outcome) → (run (extent_of base memory) limit (bytes memory) (place_of base found)).answer ≡ Some place
      → place + 64 ≤ length memory
  unfolding place_of
  place_inside (Err outcome) is = nowhere (rw (run_done {A = Option ℕ} (extent_of base memory) limit (bytes memory) None) at is)
  place_inside (Ok ste) is = go (fetched (extent_of base memory) limit ste 64) refl
    where
      go : (b : Bool) → fetched (extent_of base memory) limit ste 64 ≡ b → place + 64 ≤ length memory
      go true test =
          had_inside ste test
          (rw (run_had (extent_of base memory) limit (bytes memory) ste 8 (done None) (λ w. done (Some (ste - base))) test, run_done) at is)
      go false test =
          nowhere
          (rw (run_fault (extent_of base memory) limit (bytes memory) ste 8 (done None) (λ w. done (Some (ste - base))) test, run_done) at is)

pub ste_inside :
    (r : Registers) (base : ℕ) (memory : List ℕ) (request : Request) {at : Option ℕ} {place : ℕ}
    → at ≡ ste_at r base memory request → at ≡ Some place → place + 64 ≤ length memory
unfolding ste_at ste_at_rule
ste_inside r base memory request {at} {place} said is =
    either Inside (refusal1 r) nowhere
    (either Inside (refusal2 (extent_of base memory)) nowhere (either Inside (refusal3 request) nowhere walked)) (sym said ∙ is)
  where
    Inside : Option ℕ → Type 0
    Inside found = found ≡ Some place → place + 64 ≤ length memory

    walked : Inside (run (extent_of base memory) (2 ^ oas_size r) (bytes memory) (ste_at_rule r base request.stream.number)).answer
    walked found =
        let chained = run_then (extent_of base memory) (2 ^ oas_size r) (bytes memory) (place_of base) (stream_rule r request.stream.number) in
        place_inside base memory (2 ^ oas_size r) place _ (sym (ap (λ (ran : Ran (Option ℕ)). ran.answer) chained) ∙ found)

pub ste_end_fits :
    (r : Registers) (base : ℕ) (memory : List ℕ) (request : Request) {at : Option ℕ} {place : ℕ}
    → at ≡ ste_at r base memory request → at ≡ Some place → length memory < 2 ^ 64 → place + 64 < 2 ^ 64
ste_end_fits r base memory request said is fits = omega (arith, ste_inside r base memory request said is)

-- the part itself, pinned by its bytes and its pointer
module _ (memory part : Bor (List ℕ)) {said at : Option ℕ} (is : said ≡ at) where
  pub part_none :
      said ≡ None → part.now ≡ take 0 (drop 0 memory.now) → part.ref_ptr.0 ≡ memory.ref_ptr.0 → part.ref_ptr.1 ≡ memory.ref_ptr.1 + 0
      → SteHanded memory part at
  part_none out contents block offset = rw (← is, out) (record { contents = contents; block = block; offset = offset })

  pub part_whole :
      {place : ℕ} → said ≡ Some place → part.now ≡ take (place + 64 - place) (drop place memory.now) → part.ref_ptr.0 ≡ memory.ref_ptr.0
      → part.ref_ptr.1 ≡ memory.ref_ptr.1 + place → SteHanded memory part at
  part_whole had contents block offset =
      rw (← is, had) (record { contents = rw add-sub_cancel_left at contents; block = block; offset = offset })

pub ruleset ste_part_ways = (ste_inside, ste_end_fits, part_none, part_whole)
