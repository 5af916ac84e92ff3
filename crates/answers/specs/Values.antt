-- What an outcome holds, as numbers: its kind, and its values with their widths, in the order of an answer's words.
--     kind_of               1 translate, 2 bypass, 3 global bypass, 4 abort (a fault is one), 5 quiet, 6 unserved
--     values_of, widths_of  the values, and how many bits each may have: a line each
--     values_fit            each value has its width
-- Ours: the kinds and the order. A width of 64 is a whole word's, of which nothing is asked.
-- Assumes: nothing.
use Rattle.std.specs.Prelude.{ℕ, Bool, true, ◌&&◌, ◌||◌, List, [], ◌∷◌, leb}
use Rattle.bit_fields.specs.Bits.{in_bits}
use Rattle.answers.specs.declared.Outcome.{Outcome}
use Rattle.answers.specs.declared.Outcome.TheVariants.{Translate, Bypass, BypassGlobal, Abort, Fault, Quiet, Unserved}

abbrev pub kind_of : Outcome → ℕ
kind_of (Translate t) = 1
kind_of (Bypass ste) = 2
kind_of BypassGlobal = 3
kind_of (Abort event) = 4
kind_of (Fault event address) = 4
kind_of Quiet = 5
kind_of (Unserved n) = 6

-- the greatest of them
abbrev pub kinds_most : ℕ
kinds_most = 6

abbrev pub values_of : Outcome → List ℕ
values_of (Translate t) =
    t.ste ∷ (t.cd ∷ (t.asid ∷ (t.t0sz ∷ (t.tg0 ∷ (t.epd0 ∷ (t.ips ∷ (t.ttb0 ∷ [])))))))
values_of (Bypass ste) = ste ∷ []
values_of BypassGlobal = []
values_of (Abort event) = event ∷ []
values_of (Fault event address) = event ∷ (address ∷ [])
values_of Quiet = []
values_of (Unserved n) = n ∷ []

-- of a translation: two addresses, ASID [63:48], T0SZ [5:0], TG0 [7:6], EPD0 [14], a size in bits, an address
abbrev pub widths_of : Outcome → List ℕ
widths_of (Translate t) = 64 ∷ (64 ∷ (16 ∷ (6 ∷ (2 ∷ (1 ∷ (64 ∷ (64 ∷ [])))))))
widths_of (Bypass ste) = 64 ∷ []
widths_of BypassGlobal = []
widths_of (Abort event) = 64 ∷ []
widths_of (Fault event address) = 64 ∷ (64 ∷ [])
widths_of Quiet = []
widths_of (Unserved n) = 64 ∷ []

abbrev pub values_fit : List ℕ → List ℕ → Bool
values_fit [] widths = true
values_fit (v ∷ vs) [] = true
values_fit (v ∷ vs) (w ∷ ws) = (leb 64 w || in_bits v w) && values_fit vs ws
