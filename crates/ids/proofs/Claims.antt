-- The claims of specs/Claims.antt, each under its own name.
-- Assumes: nothing.
use native.Mathlib.Omega.{arith}
use Rattle.ids.specs.Claims.{PackingLosesNothing, EqualWordsOnly, OneWordEach, NoneIsNotZero}
use Rattle.ids.specs.Packing.{packed}
use Rattle.ids.proofs.PackingLaws.{unpack_pack, packed_only, pack_unpack}

pub packing_loses_nothing : PackingLosesNothing
packing_loses_nothing = unpack_pack

pub equal_words_only : EqualWordsOnly
equal_words_only = packed_only

pub one_word_each : OneWordEach
one_word_each word request said = let of = pack_unpack word said in (of.again, of.proper)

pub none_is_not_zero : NoneIsNotZero
unfolding packed
none_is_not_zero stream same = omega arith
