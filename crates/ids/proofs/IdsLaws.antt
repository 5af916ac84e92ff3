-- Refusal 3.
--     refused_with_lem    of a request with a SubstreamID
-- Assumes: nothing.
use Rattle.std.specs.Prelude.{Some}
use Prim.Native.Nat.{◌^◌}
use mathlib.Core.Path.{◌≡◌}
use lib.Dec.{leb}
use Rattle.ids.specs.Ids.{refusal3}
use Rattle.ids.specs.declared.SubstreamId.{SubstreamId}
use Rattle.ids.specs.declared.Request.{Request}

module _ (request : Request) where
  pub refused_with_lem : {id : SubstreamId} → request.substream ≡ Some id → leb (2 ^ 20) id.number ≡ refusal3 request
  unfolding refusal3
  refused_with_lem is = rw is
