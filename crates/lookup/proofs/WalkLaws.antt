-- Each way out of the walk, on plain values, stage by stage.
--     stream_ended                before the STE's address is known
--     ste_fault, ste_ended        at the STE: it isn't fetched; it ends the lookup
--     index_ended                 before the CD's address is known
--     cd_fault, cd_read           at the CD: it isn't fetched; it says how the lookup ends
-- Assumes: nothing.
use Rattle.std.specs.Prelude.{Err, Ok, Result}
use Prim.Native.Nat.{ℕ}
use mathlib.Core.Path.{◌≡◌, refl}
use mathlib.Core.List.{List}
use Rattle.ids.specs.declared.Request.{Request}
use Rattle.registers.specs.declared.Registers.{Registers}
use Rattle.memory_image.specs.Extent.{wanted}
use Rattle.memory_image.specs.Words.{word_of}
use Rattle.memory_image.specs.declared.Fetched.{Fetched}
use Rattle.memory_image.specs.declared.Fetched.TheVariants.{At, Outside}
use Rattle.memory_image.specs.Rule.{Rule, done}
use Rattle.answers.specs.Outcome.{f_ste_fetch, f_cd_fetch}
use Rattle.answers.specs.Walk.{Walks, Reads}
use Rattle.answers.specs.declared.Outcome.{Outcome}
use Rattle.answers.specs.declared.Outcome.TheVariants.{Fault}
use Rattle.answers.proofs.WalkLaws.{walk_done, walk_fault, read_all, walk_then}
use Rattle.stream_table.specs.StreamTable.{stream_rule}
use Rattle.stream_entry.specs.StreamEntry.{ste_rule}
use Rattle.context_table.specs.ContextTable.{context_rule}
use Rattle.context_entry.specs.ContextEntry.{cd_rule}
use Rattle.lookup.specs.Lookup.{from_cd, from_entry, from_ste, lookup_rule}

module _ (base : ℕ) (memory : List ℕ) (r : Registers) (request : Request) (ws : List ℕ) where
  abbrev Ends : Outcome → List ℕ → Type 0
  Ends outcome after = Walks base memory (lookup_rule r request) ws outcome after

  on_stream :
      {found : Result ℕ Outcome} {one : List ℕ} → Walks base memory (stream_rule r request.stream.number) ws found one → {outcome : Outcome} {after : List ℕ}
      → Walks base memory (from_ste r request.substream found) one outcome after → Ends outcome after
  unfolding lookup_rule
  on_stream said goes = walk_then base memory (stream_rule r request.stream.number) (from_ste r request.substream) ws said goes

  pub stream_ended :
      {outcome : Outcome} {after : List ℕ} → Walks base memory (stream_rule r request.stream.number) ws (Err outcome) after → Ends outcome after
  unfolding from_ste
  stream_ended {outcome} {after} said = on_stream said (walk_done base memory refl after)

  -- from where the STE is
  module _ {ste : ℕ} {one : List ℕ} (found : Walks base memory (stream_rule r request.stream.number) ws (Ok ste) one) where
    abbrev rest : (ℕ → ℕ) → Rule Outcome
    rest w = from_entry r ste w (ste_rule r request.substream ste w)

    pub ste_fault :
        {said : Fetched} {after : List ℕ} → Reads base memory ste 64 one said after → {a got : ℕ} → said ≡ Outside a → got ≡ wanted said
        → Ends (Fault f_ste_fetch got) after
    unfolding from_ste
    ste_fault reads out told = on_stream found (walk_fault base memory ste 8 reads (λ a. Fault f_ste_fetch a) rest out told)

    module _ {said : Fetched} {two : List ℕ} (reads : Reads base memory ste 64 one said two) {place : ℕ} (had : said ≡ At place) {w : ℕ → ℕ} (own : w ≡ word_of memory place)
        {says : Result ℕ Outcome} (told : says ≡ ste_rule r request.substream ste w) where
      on_ste : {outcome : Outcome} {after : List ℕ} → Walks base memory (from_entry r ste w says) two outcome after → Ends outcome after
      unfolding from_ste
      on_ste goes = on_stream found (read_all base memory ste reads (done (Fault f_ste_fetch ste)) rest had (rw (told, own) at goes))

    module _ {said : Fetched} {two : List ℕ} (reads : Reads base memory ste 64 one said two) {place : ℕ} (had : said ≡ At place) {w : ℕ → ℕ} (own : w ≡ word_of memory place) where
      pub ste_ended : {outcome : Outcome} → Err outcome ≡ ste_rule r request.substream ste w → Ends outcome two
      unfolding from_entry
      ste_ended told = on_ste reads had own told (walk_done base memory refl two)

      -- from the index of the CD
      module _ {index : ℕ} (told : Ok index ≡ ste_rule r request.substream ste w) where
        on_index :
            {found : Result ℕ Outcome} {three : List ℕ} → Walks base memory (context_rule r w index) two found three → {outcome : Outcome} {after : List ℕ}
            → Walks base memory (from_cd r ste found) three outcome after → Ends outcome after
        unfolding from_entry
        on_index said goes = on_ste reads had own told (walk_then base memory (context_rule r w index) (from_cd r ste) two said goes)

        pub index_ended :
            {outcome : Outcome} {after : List ℕ} → Walks base memory (context_rule r w index) two (Err outcome) after → Ends outcome after
        unfolding from_cd
        index_ended {outcome} {after} said = on_index said (walk_done base memory refl after)

        -- from where the CD is
        module _ {cd : ℕ} {three : List ℕ} (at : Walks base memory (context_rule r w index) two (Ok cd) three) where
          pub cd_fault :
              {said : Fetched} {after : List ℕ} → Reads base memory cd 64 three said after → {a got : ℕ} → said ≡ Outside a → got ≡ wanted said
              → Ends (Fault f_cd_fetch got) after
          unfolding from_cd
          cd_fault reads out told = on_index at (walk_fault base memory cd 8 reads (λ a. Fault f_cd_fetch a) (λ v. done (cd_rule r ste cd v)) out told)

          pub cd_read :
              {said : Fetched} {after : List ℕ} → Reads base memory cd 64 three said after → {place : ℕ} → said ≡ At place → {v : ℕ → ℕ} → v ≡ word_of memory place
              → {outcome : Outcome} → outcome ≡ cd_rule r ste cd v → Ends outcome after
          unfolding from_cd
          cd_read {after = after} reads had own says =
              on_index at
              (read_all base memory cd reads (done (Fault f_cd_fetch cd)) (λ v. done (cd_rule r ste cd v)) had (walk_done base memory (rw own at says) after))
