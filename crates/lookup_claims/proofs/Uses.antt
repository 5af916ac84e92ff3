-- What follows from the claims: specs/Uses.antt, each from the claims that it names.
-- Assumes: nothing.
use Prim.Native.Nat.{ℕ, zero, suc, ◌+◌, ◌^◌, ◌≤◌, ◌<◌}
use native.Mathlib.Omega.{arith}
use mathlib.Core.Path.{◌≡◌, refl, sym, ap, ◌∙◌}
use mathlib.Core.Bool.{Bool, true, false}
use mathlib.Core.List.{List, []}
use mathlib.Core.Logic.{◌⊎◌, inl, inr}
use borrow.Author.Tests.{leb-true, leb-false}
use lib.Dec.{leb}
use lib.ListN.{length, get_or}
use Rattle.memory_image.specs.declared.Piece.{Piece}
use Rattle.answers.specs.Pieces.{nothing}
use Rattle.lookup_claims.specs.Claims.{DescriptorLong}
use Rattle.lookup_claims.specs.Failed.{not_fetched, Wanted}
use Rattle.registers.specs.Sizes.{oas_size}
use Rattle.memory_image.specs.Extent.{extent_of}
use Rattle.answers.specs.declared.Outcome.TheVariants.{Fault}
use Rattle.answer_words.specs.AnswerWords.{laid_out, words_of}
use Rattle.lookup.specs.Lookup.{looked_up}
use Rattle.lookup_claims.specs.Uses.{NothingInNoMemory, BelowTheOas, NothingReadAtEdge, LookAtWhatYouLent, WantedNotListed, FaultStandsAnywhere}
use Rattle.lookup_claims.proofs.Claims.{listed_lies, listed_few, fault_says_which, nothing_read, kept_is_read_back, any_address_stands}

long : (p : Piece) → DescriptorLong p → 8 ≤ p.length
long p (inl is) = omega arith
long p (inr is) = omega arith

pub nothing_in_no_memory : NothingInNoMemory
nothing_in_no_memory r base request = go (looked_up r base [] request).list.count refl
  where
    go : (n : ℕ) → (looked_up r base [] request).list.count ≡ n → n ≡ 0
    go zero is = refl
    go (suc n) is =
        let some : 0 < (looked_up r base [] request).list.count = omega arith in
        let lies = listed_lies r base [] request 0 some in
        let from = lies.from in
        let inside = lies.inside in
        let l = long (get_or (looked_up r base [] request).list.piece 0 nothing) ((listed_few r base [] request).1 0 some) in
        absurd (omega arith)

pub below_the_oas : BelowTheOas
below_the_oas r base memory request i counted =
    let lies = listed_lies r base memory request i counted in
    let below = lies.below in
    let l = long (get_or (looked_up r base memory request).list.piece i nothing) ((listed_few r base memory request).1 i counted) in
    omega arith

pub nothing_read_at_edge : NothingReadAtEdge
nothing_read_at_edge r base memory request is = nothing_read r base memory request (inr (omega arith))

-- a descriptor of at most 64 bytes that isn't there: which end it is past
pub look_at_what_you_lent : LookAtWhatYouLent
look_at_what_you_lent r base memory request event address said =
    go (leb base address) (leb (address + 64) (base + length memory)) (leb (address + 64) (2 ^ oas_size r)) refl refl refl
  where
    wanted : Wanted (extent_of base memory) (2 ^ oas_size r) (not_fetched r base memory request) address
    wanted = (fault_says_which r base memory request).named event address said

    most : (wanted.size ≡ 8) ⊎ (wanted.size ≡ 64) → wanted.size ≤ 64
    most (inl is) = omega arith
    most (inr is) = omega arith

    go :
        (a b c : Bool) → leb base address ≡ a → leb (address + 64) (base + length memory) ≡ b → leb (address + 64) (2 ^ oas_size r) ≡ c
        → (address < base) ⊎ ((base + length memory < address + 64) ⊎ (2 ^ oas_size r < address + 64))
    go false b c from inside below = inl (leb-false base address from)
    go true false c from inside below = inr (inl (leb-false (address + 64) (base + length memory) inside))
    go true true false from inside below = inr (inr (leb-false (address + 64) (2 ^ oas_size r) below))
    go true true true from inside below =
        let a = leb-true base address from in
        let b = leb-true (address + 64) (base + length memory) inside in
        let c = leb-true (address + 64) (2 ^ oas_size r) below in
        let short = most wanted.long in
        absurd (wanted.not_lent (record { from = a; inside = omega arith; below = omega arith }))

pub wanted_not_listed : WantedNotListed
wanted_not_listed r base memory request event address said p alone =
    let wanted = (fault_says_which r base memory request).named event address said in
    let whole : p ≡ record { address = address; length = wanted.size } = ap (λ (l : List Piece). get_or l 0 nothing) (sym alone ∙ wanted.alone) in (
      ap (λ (q : Piece). q.address) whole,
      λ i counted is. wanted.not_lent (rw (is, whole) at (listed_lies r base memory request i counted)),
    )

pub fault_stands_anywhere : FaultStandsAnywhere
unfolding words_of laid_out
fault_stands_anywhere event address other l proper =
    any_address_stands (words_of (Fault event address) l) other refl ∙ (kept_is_read_back (Fault event address) l).standing proper
