-- A fault names the one descriptor whose fetch failed.
--     Ends, run_ends, ends_then     something holds of whatever a rule gives and of what it failed to fetch, for every rule
--     Told                          a fault names the one descriptor that failed; no other outcome has one
--     stream_told, entry_told, context_told, cd_told  of the four stages
--     lookup_told                   of the whole
-- Assumes: nothing.
use Prim.Native.Nat.{ℕ, ◌-◌, ◌*◌, ◌^◌}
use Rattle.ids.specs.declared.SubstreamId.{SubstreamId}
use mathlib.Core.Path.{◌≡◌, refl, sym, ◌∙◌}
use mathlib.Core.Bool.{Bool, true, false, not, ◌&&◌, ◌||◌}
use mathlib.Core.List.{List, [], ◌∷◌, ◌++◌, append-nil}
use mathlib.Core.Logic.{◌⊎◌, inl, inr}
use lib.Dec.{eqb, leb, ltb}
use Rattle.number_laws.proofs.Tests.{not_both}
use Rattle.bit_fields.specs.Bits.{bits, low}
use Rattle.std.specs.Prelude.{if◌then◌else◌, Err, None, Ok, Option, Result, Some}
use Rattle.bit_fields.proofs.ChoiceLaws.{either}
use Rattle.ids.specs.declared.Request.{Request}
use Rattle.registers.specs.Fields.{smmu_en, hyp, ttf}
use Rattle.registers.specs.Fields as fields
use Rattle.registers.specs.declared.Registers.{Registers}
use Rattle.memory_image.specs.Extent.{fetched}
use Rattle.memory_image.specs.declared.Extent.{Extent}
use Rattle.memory_image.specs.Rule.{Rule, done, fetch, descriptor, words_at, run, and_then}
use Rattle.memory_image.specs.declared.Piece.{Piece}
use Rattle.memory_image.proofs.ExtentLaws.{lies_fetched}
use Rattle.memory_image.proofs.RunLaws.{run_done, run_had, run_fault}
use Rattle.answers.specs.declared.Outcome.{Outcome}
use Rattle.answers.specs.declared.Outcome.TheVariants.{Translate, Bypass, BypassGlobal, Abort, Fault, Quiet, Unserved}
use Rattle.stream_table.specs.StreamTable.{switched_off, log2, is_linear, split_of, l1std_at, stes_held, span_of, in_leaf, leaf_rule, two_level_rule, stream_rule}
use Rattle.stream_entry.specs.StreamEntry.{v, config, s1_fmt, s1_cd_max, s1_dss, strw, not_there, stage2_in, bad_stage1, bypass_rule, with_id, without_id, substream_rule, stage1_rule, ste_rule}
use Rattle.context_table.specs.ContextTable.{l1cd_rule, two_level_rule as cd_two_level_rule, context_rule}
use Rattle.context_entry.specs.ContextEntry as cd
use Rattle.lookup.specs.Lookup.{from_cd, from_entry, from_ste, lookup_rule}
use Rattle.lookup_claims.specs.Failed.{failures, Wanted}

module _ (e : Extent) (limit : ℕ) where
  -- the list of what failed, beside what is given
  abbrev pub Ends : {A : Type 0} → (A → List Piece → Type 0) → Rule A → Type 0
  Ends P (done x) = P x []
  Ends P (fetch address n fault rest) =
      (fetched e limit address (8 * n) ≡ false → Ends (λ x failed. P x (descriptor address n ∷ failed)) fault)
      × ((w : ℕ → ℕ) → Ends P (rest w))

  pub run_ends :
      {A : Type 0} (P : A → List Piece → Type 0) (f : ℕ → ℕ) (t : Rule A) → Ends P t → P (run e limit f t).answer (failures e limit f t)
  unfolding failures
  run_ends P f (done x) all = rw (run_done e limit f x) all
  run_ends P f (fetch address n fault rest) all =
      go (fetched e limit address (8 * n)) refl
      (run_ends P f (rest (words_at f (address - e.base) n)) (all.1 (words_at f (address - e.base) n)))
      (λ test. run_ends (λ x failed. P x (descriptor address n ∷ failed)) f fault (all.0 test))
    where
      after : Bool → List Piece
      after b =
          if b then failures e limit f (rest (words_at f (address - e.base) n))
          else descriptor address n ∷ failures e limit f fault

      go :
          (b : Bool) → fetched e limit address (8 * n) ≡ b
          → P (run e limit f (rest (words_at f (address - e.base) n))).answer (failures e limit f (rest (words_at f (address - e.base) n)))
          → (fetched e limit address (8 * n) ≡ false → P (run e limit f fault).answer (descriptor address n ∷ failures e limit f fault))
          → P (run e limit f (fetch address n fault rest)).answer (after (fetched e limit address (8 * n)))
      go true test on out = rw (run_had e limit f address n fault rest test, test) on
      go false test on out = rw (run_fault e limit f address n fault rest test, test) (out test)

  ends_then :
      {A B : Type 0} (P : A → List Piece → Type 0) (Q : B → List Piece → Type 0) (next : A → Rule B)
      → ((x : A) (failed : List Piece) → P x failed → Ends (λ y more. Q y (failed ++ more)) (next x))
      → (t : Rule A) → Ends P t → Ends Q (and_then t next)
  unfolding and_then
  ends_then P Q next on (done x) all = on x [] all
  ends_then P Q next on (fetch address n fault rest) all = (
    λ test. ends_then (λ x failed. P x (descriptor address n ∷ failed)) (λ y failed. Q y (descriptor address n ∷ failed)) next
        (λ x failed. on x (descriptor address n ∷ failed)) fault (all.0 test),
    λ w. ends_then P Q next on (rest w) (all.1 w),
  )

  -- a fault names the one descriptor that failed; no other outcome has one
  abbrev pub Told : Outcome → List Piece → Type 0
  Told (Translate t) failed = failed ≡ []
  Told (Bypass ste) failed = failed ≡ []
  Told BypassGlobal failed = failed ≡ []
  Told (Abort event) failed = failed ≡ []
  Told (Fault event address) failed = Wanted e limit failed address
  Told Quiet failed = failed ≡ []
  Told (Unserved n) failed = failed ≡ []

  wanted :
      (n : ℕ) → (8 * n ≡ 8) ⊎ (8 * n ≡ 64) → (address : ℕ) → fetched e limit address (8 * n) ≡ false
      → Wanted e limit (descriptor address n ∷ []) address
  wanted n long address test =
      record {
        size = 8 * n;
        alone = refl;
        long = long;
        not_lent = λ lies. not_both (sym (lies_fetched e limit (descriptor address n) lies) ∙ test);
      }

  -- from StreamID to STE
  abbrev StreamTold : Result ℕ Outcome → List Piece → Type 0
  StreamTold (Ok ste) failed = failed ≡ []
  StreamTold (Err outcome) failed = Told outcome failed

  off_told : (r : Registers) → Told (switched_off r) []
  unfolding switched_off
  off_told r = either (λ o. Told o []) (eqb (fields.abort r) 1) refl refl

  leaf_told : (r : Registers) (split l1std number : ℕ) → StreamTold (leaf_rule r split l1std number) []
  unfolding leaf_rule
  leaf_told r split l1std number = go (stes_held (span_of l1std) split)
    where
      go : (leaf : Option ℕ) → StreamTold (in_leaf leaf l1std (low number split)) []
      go None = refl
      go (Some n) = either (λ found. StreamTold found []) (leb n (low number split)) refl refl

  stream_told : (r : Registers) (number : ℕ) → Ends StreamTold (stream_rule r number)
  unfolding stream_rule two_level_rule
  stream_told r number =
      either (Ends StreamTold) (eqb (smmu_en r) 0) (off_told r)
      (either (Ends StreamTold) (leb (2 ^ log2 r) number) refl
      (either (Ends StreamTold) (is_linear r) refl
      (wanted 1 (inl refl) (l1std_at r (split_of (fields.split r)) number), λ w. leaf_told r (split_of (fields.split r)) (w 0) number)))

  -- reading the STE
  abbrev EntryTold : Result ℕ Outcome → Type 0
  EntryTold (Ok index) = Unit {0}
  EntryTold (Err outcome) = Told outcome []

  with_told : (max : ℕ) (w : ℕ → ℕ) (substream : Option SubstreamId) (address : ℕ) → EntryTold (substream_rule max w substream address)
  unfolding with_id without_id
  with_told max w None address =
      either EntryTold (eqb max 0) tt (either EntryTold (eqb (s1_dss w) 0) refl (either EntryTold (eqb (s1_dss w) 1) refl tt))
  with_told max w (Some id) address =
      either EntryTold (eqb max 0 || leb (2 ^ max) id.number) refl (either EntryTold (eqb id.number 0 && eqb (s1_dss w) 2) refl tt)

  bypass_told : (substream : Option SubstreamId) (address : ℕ) → Told (bypass_rule substream address) []
  bypass_told None address = refl
  bypass_told (Some id) address = refl

  entry_told : (r : Registers) (substream : Option SubstreamId) (address : ℕ) (w : ℕ → ℕ) → EntryTold (ste_rule r substream address w)
  unfolding ste_rule stage1_rule
  entry_told r substream address w =
      either EntryTold (eqb (v w) 0) refl
      (either EntryTold (ltb (config w) 4) refl
      (either EntryTold (not_there r (config w)) refl
      (either EntryTold (stage2_in (config w)) refl
      (either EntryTold (eqb (config w) 4) (bypass_told substream address)
      (either EntryTold (bad_stage1 r w) refl
      (either EntryTold (eqb (hyp r) 1 && not (eqb (strw w) 0)) refl (with_told (s1_cd_max r w) w substream address)))))))

  -- from SubstreamID to CD
  abbrev ContextTold : Result ℕ Outcome → List Piece → Type 0
  ContextTold (Ok address) failed = failed ≡ []
  ContextTold (Err outcome) failed = Told outcome failed

  context_told : (r : Registers) (w : ℕ → ℕ) (index : ℕ) → Ends ContextTold (context_rule r w index)
  unfolding context_rule cd_two_level_rule l1cd_rule
  context_told r w index =
      either (Ends ContextTold) (eqb (s1_cd_max r w) 0) refl
      (either (Ends ContextTold) (eqb (s1_fmt w) 0) refl
      (wanted 1 (inl refl) _, λ l1cd. either (λ found. ContextTold found []) (eqb (bits 0 0 (l1cd 0)) 0) refl refl))

  cd_told : (r : Registers) (ste address : ℕ) (w : ℕ → ℕ) → Told (cd.cd_rule r ste address w) []
  unfolding cd.cd_rule cd.vmsa32_rule
  cd_told r ste address w =
      either Plain (eqb (cd.v w) 0) refl
      (either Plain (eqb (cd.aa64 w) 0) (either Plain (eqb (bits 0 0 (ttf r)) 1) refl refl)
      (either Plain (eqb (bits 1 1 (ttf r)) 0) refl
      (either Plain (eqb (cd.epd0 w) 1) refl
      (either Plain (cd.half_fits r (cd.effective_ips r (cd.ips w)) (cd.first_half w)) refl refl))))
    where
      Plain : Outcome → Type 0
      Plain outcome = Told outcome []

  -- the whole
  from_cd_told :
      (r : Registers) (ste : ℕ) (found : Result ℕ Outcome) (failed : List Piece) → ContextTold found failed
      → Ends (λ outcome more. Told outcome (failed ++ more)) (from_cd r ste found)
  unfolding from_cd
  from_cd_told r ste (Err outcome) failed told = rw append-nil told
  from_cd_told r ste (Ok address) failed told = rw told (wanted 8 (inr refl) address, λ w. cd_told r ste address w)

  from_entry_told : (r : Registers) (ste : ℕ) (w : ℕ → ℕ) (says : Result ℕ Outcome) → EntryTold says → Ends Told (from_entry r ste w says)
  unfolding from_entry
  from_entry_told r ste w (Err outcome) told = told
  from_entry_told r ste w (Ok index) told =
      ends_then ContextTold Told (from_cd r ste) (from_cd_told r ste) (context_rule r w index) (context_told r w index)

  from_ste_told :
      (r : Registers) (substream : Option SubstreamId) (found : Result ℕ Outcome) (failed : List Piece) → StreamTold found failed
      → Ends (λ outcome more. Told outcome (failed ++ more)) (from_ste r substream found)
  unfolding from_ste
  from_ste_told r substream (Err outcome) failed told = rw append-nil told
  from_ste_told r substream (Ok ste) failed told =
      rw told (wanted 8 (inr refl) ste, λ w. from_entry_told r ste w (ste_rule r substream ste w) (entry_told r substream ste w))

  pub lookup_told : (r : Registers) (request : Request) → Ends Told (lookup_rule r request)
  unfolding lookup_rule
  lookup_told r request =
      ends_then StreamTold Told (from_ste r request.substream) (from_ste_told r request.substream) (stream_rule r request.stream.number)
      (stream_told r request.stream.number)
