-- What a proper outcome and a proper list have, and what makes them so.
--     EndsProper                 of a stage: where it ends the lookup, it ends it with a proper outcome
--     fields_proper              a translation whose fields have their widths
--     listed_no_fetch            an event without an address is none of the two that have one
--     few_proper                 a proper list has at most as many pieces as a list has
--     proper_pieces_lem          a list that has no more, each of which ends at or below 2^52, is proper
-- Assumes: nothing.
use Rattle.std.specs.Prelude.{Err, Ok, Result}
use Prim.Native.Nat.{ℕ, ◌+◌, ◌^◌, ◌≤◌, ◌<◌}
use native.Mathlib.Omega.{arith}
use mathlib.Core.Path.{◌≡◌, refl}
use mathlib.Core.Bool.{Bool, true, false, ◌||◌}
use borrow.Author.Tests.{eqb-true, lt-ltb, le-leb, leb-true}
use lib.Dec.{eqb}
use Rattle.number_laws.proofs.Tests.{both}
use Rattle.placed.proofs.FromLaws.{all_every}
use Rattle.memory_image.specs.declared.Piece.{Piece}
use Rattle.memory_image.specs.Extent.{address_top}
use Rattle.answers.specs.Layout.{pieces_most}
use Rattle.answers.specs.Pieces.{EachPiece}
use Rattle.answers.specs.Outcome.{f_ste_fetch, f_cd_fetch, fetch_event}
use Rattle.answers.specs.Proper.{proper_fields, listed_event, proper_outcome, proper_pieces, ends_below_at}
use Rattle.answers.specs.declared.Outcome.{Outcome}
use Rattle.answers.specs.declared.Pieces.{Pieces}
use Rattle.answers.specs.declared.Translation.{Translation}

abbrev pub EndsProper : Result ℕ Outcome → Type 0
EndsProper (Ok x) = Unit {0}
EndsProper (Err outcome) = proper_outcome outcome ≡ true

pub fields_proper :
    (t : Translation) → t.asid < 2 ^ 16 → t.t0sz < 2 ^ 6 → t.tg0 < 2 ^ 2 → t.epd0 < 2 ^ 1 → proper_fields t ≡ true
unfolding proper_fields
fields_proper t asid t0sz tg0 epd0 = simp (lt-ltb _ _ asid, lt-ltb _ _ t0sz, lt-ltb _ _ tg0, lt-ltb _ _ epd0)

pub listed_no_fetch : (event : ℕ) → listed_event event ≡ true → fetch_event event ≡ false
unfolding listed_event fetch_event
listed_no_fetch event listed = go (eqb event f_ste_fetch) (eqb event f_cd_fetch) refl refl
  where
    clash : {A : Type 0} → false ≡ true → A
    clash same = let z : ◌≡◌ {A = ℕ} 0 1 = cc in absurd (omega arith)

    go : (ste cd : Bool) → eqb event f_ste_fetch ≡ ste → eqb event f_cd_fetch ≡ cd → (ste || cd) ≡ false
    go true cd is other = clash (rw (eqb-true event f_ste_fetch is) at listed)
    go false true other is = clash (rw (eqb-true event f_cd_fetch is) at listed)
    go false false other is = refl

-- at or below 2^52
abbrev pub Below : Piece → Type 0
Below p = p.address + p.length ≤ address_top

module _ (l : Pieces) where
  pub few_proper : proper_pieces l ≡ true → l.count ≤ pieces_most
  unfolding proper_pieces
  few_proper proper = leb-true l.count pieces_most (both _ _ proper).0

  pub proper_pieces_lem : l.count ≤ pieces_most → EachPiece Below l → proper_pieces l ≡ true
  unfolding proper_pieces
  proper_pieces_lem few ends =
      simp (le-leb _ _ few) (all_every (ends_below_at l.piece) l.count 0 (λ k low high. le-leb _ _ (ends k (omega arith))))
