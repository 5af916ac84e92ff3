-- What every answer of a lookup has (RULES, "What an answer holds", "When the bench says no", row 7).
--     proper_outcome      the fields of a translation have their widths, and an event or unserved number is one of those listed; any
--                        address may stand with the event of a failed fetch
--     proper_pieces       at most four pieces, and none that is counted ends past 2^52
--     ProperAnswer        an outcome and a list that are proper, in an array of four: what a book may keep
-- Assumes: nothing.
use Rattle.std.specs.Prelude.{ℕ, ◌+◌, ◌≡◌, Bool, true, ◌&&◌, ◌||◌, List, eqb, leb, length, get_or}
use Rattle.placed.specs.From.{all_from}
use Rattle.memory_image.specs.Extent.{address_top}
use Rattle.memory_image.specs.declared.Piece.{Piece}
use Rattle.answers.specs.Outcome.{c_bad_stream_id, c_bad_ste, f_stream_disabled, c_bad_substream_id, c_bad_cd, fetch_event, stage2, vmsa32, stream_world}
use Rattle.answers.specs.Layout.{pieces_most}
use Rattle.answers.specs.Pieces.{nothing}
use Rattle.answers.specs.Values.{values_of, widths_of, values_fit}
use Rattle.answers.specs.declared.Outcome.{Outcome}
use Rattle.answers.specs.declared.Outcome.TheVariants.{Translate, Bypass, BypassGlobal, Abort, Fault, Quiet, Unserved}
use Rattle.answers.specs.declared.Translation.{Translation}
use Rattle.answers.specs.declared.Pieces.{Pieces}

-- ASID, T0SZ, TG0 and EPD0 have their widths
unfoldable pub proper_fields : Translation → Bool
proper_fields t = values_fit (values_of (Translate t)) (widths_of (Translate t))

-- the events without an address: C_BAD_STREAMID 0x02, C_BAD_STE 0x04, F_STREAM_DISABLED 0x06, C_BAD_SUBSTREAMID 0x08, C_BAD_CD 0x0A
unfoldable pub listed_event : ℕ → Bool
listed_event event =
    eqb event c_bad_stream_id
    || (eqb event c_bad_ste || (eqb event f_stream_disabled || (eqb event c_bad_substream_id || eqb event c_bad_cd)))

-- unserved 20, 21 or 22
unfoldable pub listed_case : ℕ → Bool
listed_case n = eqb n stage2 || (eqb n vmsa32 || eqb n stream_world)

unfoldable pub proper_outcome : Outcome → Bool
proper_outcome (Translate t) = proper_fields t
proper_outcome (Bypass ste) = true
proper_outcome BypassGlobal = true
proper_outcome (Abort event) = listed_event event
proper_outcome (Fault event address) = fetch_event event
proper_outcome Quiet = true
proper_outcome (Unserved n) = listed_case n

-- a piece that ends at or below 2^52
abbrev pub ends_below : Piece → Bool
ends_below p = leb (p.address + p.length) address_top

-- the piece at a place of the array does
abbrev pub ends_below_at : List Piece → ℕ → Bool
ends_below_at pieces i = ends_below (get_or pieces i nothing)

unfoldable pub proper_pieces : Pieces → Bool
proper_pieces l = leb l.count pieces_most && all_from (ends_below_at l.piece) l.count 0

pub record ProperAnswer (outcome : Outcome) (l : Pieces) : Type 0 where
  pub outcome_proper : proper_outcome outcome ≡ true
  pub list_proper : proper_pieces l ≡ true
  pub array_full : length l.piece ≡ pieces_most
