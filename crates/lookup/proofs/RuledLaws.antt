-- From the walk to what the rules give, and the refusals.
--     lookup_few, ruled_few      at most four descriptors are fetched, and listed
--     lookup_every               of 8 bytes or of 64
--     lookup_gives, ruled_proper whatever can be given is proper
--     limit_is                   2^(OAS size), as the code computes it
--     answer_ruled               the walk, with its outcome put before its list, is what the rules give
--     refused_first .. answered_last  the refusals in their order, and the answer
--     into_back                  values are read back from the numbers that they are told by
--     shaped                     an answer is proper and has a whole array, and a refusal a number from 1 to 3 and no list
--     looked_is, looked_refused  an answer, or a refusal, read back from the words
-- Assumes: nothing.
use Rattle.std.specs.Prelude.{Err, Ok, Option, Result, ⊤}
use Rattle.ids.specs.declared.SubstreamId.{SubstreamId}
use Rattle.answers.specs.Refusals.{refusal_number}
use Rattle.answers.specs.declared.refusals.Refusal.{Refusal}
use Rattle.answers.specs.declared.refusals.Refusal.TheVariants as refusal
use Prim.Native.Nat.{ℕ, ◌^◌, ◌%◌, ◌≤◌, ◌<◌}
use native.Mathlib.Omega.{arith}
use mathlib.Core.Path.{◌≡◌, refl, sym, ap, ◌∙◌}
use mathlib.Core.Bool.{Bool, true, false}
use mathlib.Core.List.{List}
use lib.ListN.{length, replicate}
use Rattle.bit_fields.proofs.BitsLaws.{power_is}
use Rattle.bit_fields.proofs.ChoiceLaws.{either}
use Rattle.ids.specs.Ids.{refusal3}
use Rattle.ids.specs.declared.Request.{Request}
use Rattle.ids.specs.Numbers.{request_from, given_of, number_of}
use Rattle.ids.proofs.NumbersLaws.{numbers_back}
use Rattle.registers.specs.Words.{registers_from, words_of_registers}
use Rattle.registers.proofs.WordsLaws.{words_back}
use Rattle.registers.specs.Sizes.{refusal1, oas_size}
use Rattle.registers.specs.declared.Registers.{Registers}
use Rattle.registers.proofs.SizesLaws.{oas_at_most}
use Rattle.memory_image.specs.Extent.{extent_of, end_of, below, refusal2}
use Rattle.memory_image.specs.Words.{bytes}
use Rattle.memory_image.specs.Rule.{Fetches, Every, Gives, run}
use Rattle.memory_image.proofs.Claims.{listed_few}
use Rattle.memory_image.proofs.RunLaws.{fetches_then, every_then, gives_then, run_gives}
use Rattle.memory_image.proofs.BelowLaws.{run_below}
use Rattle.answers.specs.Layout.{pieces_most, answer_words}
use Rattle.answers.specs.Outcome.{fetch_event}
use Rattle.answers.specs.Pieces.{none, pieces_of}
use Rattle.answers.specs.Proper.{proper_outcome}
use Rattle.answers.specs.Walk.{Walks}
use Rattle.answers.specs.declared.Outcome.{Outcome}
use Rattle.answers.specs.declared.Pieces.{Pieces}
use Rattle.answers.proofs.PiecesLaws.{pieces_length}
use Rattle.answers.proofs.ProperLaws.{EndsProper}
use Rattle.answers.proofs.WalkLaws.{walk_run}
use Rattle.answer_words.specs.AnswerWords.{words_of, outcome_of, list_of, outcome_put}
use Rattle.answer_words.proofs.AnswerWordsLaws.{put_words, outcome_back, proper_own, list_back}
use Rattle.stream_table.specs.StreamTable.{stream_rule}
use Rattle.stream_table.proofs.StreamLaws.{stream_few, stream_every, stream_proper}
use Rattle.stream_entry.specs.StreamEntry.{ste_rule}
use Rattle.stream_entry.proofs.EntryLaws.{ste_proper}
use Rattle.context_table.specs.ContextTable.{context_rule}
use Rattle.context_table.proofs.ContextLaws.{context_few, context_every, context_proper}
use Rattle.context_entry.proofs.EntryLaws.{cd_proper}
use Rattle.lookup.specs.Lookup.{from_cd, from_entry, from_ste, lookup_rule, ruled, looked_up, answer_told, answer_put, LooksInto}
use Rattle.lookup.specs.Walked.{told_by}
use Rattle.lookup.specs.declared.Looked.{Looked}

-- at most four: an L1STD, an STE, an L1CD, a CD
cd_few : (r : Registers) (ste : ℕ) (found : Result ℕ Outcome) → Fetches 1 (from_cd r ste found)
unfolding from_cd
cd_few r ste (Err outcome) = tt
cd_few r ste (Ok cd) = (tt, λ w. tt)

entry_few : (r : Registers) (ste : ℕ) (w : ℕ → ℕ) (says : Result ℕ Outcome) → Fetches 2 (from_entry r ste w says)
unfolding from_entry
entry_few r ste w (Err outcome) = tt
entry_few r ste w (Ok index) =
    fetches_then 1 (from_cd r ste) (cd_few r ste) (context_rule r w index) 1 2 (omega arith) (context_few r w index)

ste_few : (r : Registers) (substream : Option SubstreamId) (found : Result ℕ Outcome) → Fetches 3 (from_ste r substream found)
unfolding from_ste
ste_few r substream (Err outcome) = tt
ste_few r substream (Ok ste) = (tt, λ w. entry_few r ste w (ste_rule r substream ste w))

pub lookup_few : (r : Registers) (request : Request) → Fetches 4 (lookup_rule r request)
unfolding lookup_rule
lookup_few r request =
    fetches_then 3 (from_ste r request.substream) (ste_few r request.substream) (stream_rule r request.stream.number) 1 4
    (omega arith) (stream_few r request.stream.number)

-- an L1STD and an L1CD are 8 bytes long, an STE and a CD 64
module _ (P : ℕ → Type 0) (eight : P 8) (sixty_four : P 64) where
  cd_every : (r : Registers) (ste : ℕ) (found : Result ℕ Outcome) → Every P (from_cd r ste found)
  unfolding from_cd
  cd_every r ste (Err outcome) = tt
  cd_every r ste (Ok cd) = (sixty_four, (tt, λ w. tt))

  entry_every : (r : Registers) (ste : ℕ) (w : ℕ → ℕ) (says : Result ℕ Outcome) → Every P (from_entry r ste w says)
  unfolding from_entry
  entry_every r ste w (Err outcome) = tt
  entry_every r ste w (Ok index) =
      every_then P (from_cd r ste) (cd_every r ste) (context_rule r w index) (context_every r w index P eight)

  ste_every : (r : Registers) (substream : Option SubstreamId) (found : Result ℕ Outcome) → Every P (from_ste r substream found)
  unfolding from_ste
  ste_every r substream (Err outcome) = tt
  ste_every r substream (Ok ste) = (sixty_four, (tt, λ w. entry_every r ste w (ste_rule r substream ste w)))

  pub lookup_every : (r : Registers) (request : Request) → Every P (lookup_rule r request)
  unfolding lookup_rule
  lookup_every r request =
      every_then P (from_ste r request.substream) (ste_every r request.substream) (stream_rule r request.stream.number)
      (stream_every r request.stream.number P eight)

-- whatever it can give is proper
abbrev pub ProperOutcome : Outcome → Type 0
ProperOutcome outcome = proper_outcome outcome ≡ true

cd_gives : (r : Registers) (ste : ℕ) (found : Result ℕ Outcome) → EndsProper found → Gives ProperOutcome (from_cd r ste found)
unfolding from_cd proper_outcome fetch_event
cd_gives r ste (Err outcome) proper = proper
cd_gives r ste (Ok cd) proper = (refl, λ w. cd_proper r ste cd w)

entry_gives :
    (r : Registers) (ste : ℕ) (w : ℕ → ℕ) (says : Result ℕ Outcome) → EndsProper says → Gives ProperOutcome (from_entry r ste w says)
unfolding from_entry
entry_gives r ste w (Err outcome) proper = proper
entry_gives r ste w (Ok index) proper =
    gives_then EndsProper ProperOutcome (from_cd r ste) (cd_gives r ste) (context_rule r w index) (context_proper r w index)

ste_gives :
    (r : Registers) (substream : Option SubstreamId) (found : Result ℕ Outcome) → EndsProper found → Gives ProperOutcome (from_ste r substream found)
unfolding from_ste proper_outcome fetch_event
ste_gives r substream (Err outcome) proper = proper
ste_gives r substream (Ok ste) proper =
    (refl, λ w. entry_gives r ste w (ste_rule r substream ste w) (ste_proper r substream ste w))

pub lookup_gives : (r : Registers) (request : Request) → Gives ProperOutcome (lookup_rule r request)
unfolding lookup_rule
lookup_gives r request =
    gives_then EndsProper ProperOutcome (from_ste r request.substream) (ste_gives r request.substream)
    (stream_rule r request.stream.number) (stream_proper r request.stream.number)

-- what `power` gives for the size of this SMMU's addresses
pub limit_is : (r : Registers) {size limit : ℕ} → size ≡ oas_size r → limit ≡ 2 ^ size % 2 ^ 64 → limit ≡ 2 ^ oas_size r
limit_is r {size} is_size is_limit =
    let most = oas_at_most r in power_is 64 size is_limit (omega arith) ∙ ap (λ (n : ℕ). 2 ^ n) is_size

module _ (r : Registers) (base : ℕ) (memory : List ℕ) (request : Request) where
  -- the list has room for all that is fetched
  pub ruled_few : length (ruled r base memory request).list ≤ pieces_most
  unfolding ruled
  ruled_few =
      let few = listed_few Outcome (extent_of base memory) (2 ^ oas_size r) (bytes memory) 4 (lookup_rule r request) (lookup_few r request) in
      omega arith

  pub ruled_proper : ProperOutcome (ruled r base memory request).answer
  unfolding ruled
  ruled_proper =
      run_gives (extent_of base memory) (2 ^ oas_size r) (bytes memory) ProperOutcome (lookup_rule r request) (lookup_gives r request)

  -- on the memory below the limit the rules give the same
  ruled_below :
      {size limit : ℕ} → size ≡ oas_size r → limit ≡ 2 ^ size % 2 ^ 64 → {part : List ℕ} → part ≡ below base limit memory
      → run (extent_of base part) (end_of (extent_of base part)) (bytes part) (lookup_rule r request) ≡ ruled r base memory request
  unfolding ruled
  ruled_below is_size is_limit is_part =
      rw (is_part, limit_is r is_size is_limit)
      (sym (run_below base (2 ^ oas_size r) memory (lookup_rule r request) (lookup_every (λ n. 0 < n) (omega arith) (omega arith) r request)))

  pub answer_ruled :
      {size limit : ℕ} → size ≡ oas_size r → limit ≡ 2 ^ size % 2 ^ 64 → {part : List ℕ} → part ≡ below base limit memory
      → {base' : ℕ} → base' ≡ base → (walked : Result Outcome Outcome) {listed : List ℕ}
      → Walks base' part (lookup_rule r request) (replicate answer_words 0) (told_by walked) listed
      → {outcome : Outcome} → outcome ≡ told_by walked → {after : List ℕ} → after ≡ outcome_put listed outcome
      → after ≡ words_of (ruled r base memory request).answer (pieces_of (ruled r base memory request).list)
  answer_ruled is_size is_limit {part} is_part is_base walked walk' told put =
      let same = ruled_below is_size is_limit is_part in
      let walk = rw is_base at walk' in
      let few = ruled_few in
      let ran = walk_run base part (lookup_rule r request) walk (rw same few) in
      put
      ∙ rw (told, ran.0, ran.1, same) (put_words (pieces_of (ruled r base memory request).list) (ruled r base memory request).answer)

  -- the refusals in their order
  module _ (before : List ℕ) {r' : Registers} (is_r : r' ≡ r) {first : Bool} (is_first' : first ≡ refusal1 r') where
    is_first : first ≡ refusal1 r
    is_first = is_first' ∙ ap refusal1 is_r

    pub refused_first : first ≡ true → LooksInto (looked_up r base memory request) before (Err refusal.Registers) before
    unfolding looked_up answer_told answer_put
    refused_first so = simp (← is_first, so) (record { result = refl; words = refl })

    module _ (passed : first ≡ false) {second : Bool} (is_second : second ≡ refusal2 (extent_of base memory)) where
      pub refused_second : second ≡ true → LooksInto (looked_up r base memory request) before (Err refusal.Memory) before
      unfolding looked_up answer_told answer_put
      refused_second so = simp (← is_first, passed, ← is_second, so) (record { result = refl; words = refl })

      module _ (passed' : second ≡ false) {q' : Request} (is_q : q' ≡ request) {third : Bool} (is_third' : third ≡ refusal3 q') where
        is_third : third ≡ refusal3 request
        is_third = is_third' ∙ ap refusal3 is_q

        pub refused_third : third ≡ true → LooksInto (looked_up r base memory request) before (Err refusal.Substream) before
        unfolding looked_up answer_told answer_put
        refused_third so = simp (← is_first, passed, ← is_second, passed', ← is_third, so) (record { result = refl; words = refl })

        pub answered_last :
            third ≡ false → {after : List ℕ} → after ≡ words_of (ruled r' base memory q').answer (pieces_of (ruled r' base memory q').list)
            → LooksInto (looked_up r base memory request) before (Ok tt) after
        unfolding looked_up answer_told answer_put
        answered_last so is =
            simp (← is_first, passed, ← is_second, passed', ← is_third, so) (record { result = refl; words = rw (is_r, is_q) at is })

  -- values are read back from the numbers that they are told by
  pub into_back :
      {narrow : List ℕ} → narrow ≡ words_of_registers r → {given : ℕ} → given ≡ given_of request.substream
      → {number : ℕ} → number ≡ number_of request.substream → {before after : List ℕ} {told : Result ⊤ Refusal}
      → LooksInto (looked_up (registers_from narrow r.strtab_base) base memory (request_from request.stream.number given number)) before told after
      → LooksInto (looked_up r base memory request) before told after
  into_back is_narrow is_given is_number into = rw (is_narrow, is_given, is_number, numbers_back request, words_back r) at into

-- an answer is proper and has a whole array, and a refusal a number from 1 to 3 and no list
abbrev pub Shaped : Result Outcome Refusal → Pieces → Type 0
Shaped (Err n) l = (1 ≤ refusal_number n) × ((refusal_number n ≤ 3) × (l ≡ none))
Shaped (Ok outcome) l = ProperOutcome outcome × (length l.piece ≡ pieces_most)

module _ (r : Registers) (base : ℕ) (memory : List ℕ) (request : Request) where
  abbrev Whole : Looked → Type 0
  Whole looked = Shaped looked.answer looked.list

  pub shaped : Shaped (looked_up r base memory request).answer (looked_up r base memory request).list
  unfolding looked_up
  shaped =
      either Whole (refusal1 r) (omega arith, (omega arith, refl))
      (either Whole (refusal2 (extent_of base memory)) (omega arith, (omega arith, refl))
      (either Whole (refusal3 request) (omega arith, (omega arith, refl))
      (ruled_proper r base memory request, pieces_length (ruled r base memory request).list)))

  module _ {told : Result ⊤ Refusal} {after : List ℕ} (is : LooksInto (looked_up r base memory request) (replicate answer_words 0) told after) where
    Into : Looked → Type 0
    Into looked = LooksInto looked (replicate answer_words 0) told after

    pub looked_is :
        told ≡ Ok tt → {outcome : Outcome} → outcome ≡ outcome_of after → {list : Pieces} → list ≡ list_of after
        → record { answer = Ok outcome; list = list } ≡ looked_up r base memory request
    unfolding Into answer_told answer_put
    looked_is so {outcome} is_outcome {list} is_list =
        go (looked_up r base memory request).answer (looked_up r base memory request).list refl shaped is
      where
        go :
            (a : Result Outcome Refusal) (l : Pieces) → record { answer = a; list = l } ≡ looked_up r base memory request → Shaped a l
            → Into (record { answer = a; list = l }) → record { answer = Ok outcome; list = list } ≡ looked_up r base memory request
        go (Err n) l same shape put = let z : ◌≡◌ {A = ℕ} 0 1 = cc (put.result) in absurd (omega arith)
        go (Ok o) l same shape put = rw (is_outcome, is_list, put.words, outcome_back o l (proper_own o shape.0), list_back o l shape.1) same

    pub looked_refused :
        {n : Refusal} → told ≡ Err n → {list : Pieces} → list ≡ none → record { answer = Err n; list = list } ≡ looked_up r base memory request
    unfolding Into answer_told answer_put
    looked_refused {n} so {list} is_list =
        go (looked_up r base memory request).answer (looked_up r base memory request).list refl shaped is
      where
        go :
            (a : Result Outcome Refusal) (l : Pieces) → record { answer = a; list = l } ≡ looked_up r base memory request → Shaped a l
            → Into (record { answer = a; list = l }) → record { answer = Err n; list = list } ≡ looked_up r base memory request
        go (Err m) l same shape put = let alike : n ≡ m = cc (put.result) in rw (is_list, alike, ← shape.1.1) same
        go (Ok o) l same shape put = let z : ◌≡◌ {A = ℕ} 0 1 = cc (put.result) in absurd (omega arith)
