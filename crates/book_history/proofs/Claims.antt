-- The claims of specs/Claims.antt, each under its own name.
-- Assumes: nothing.
use Prim.Native.Nat.{◌+◌, ◌<◌, min, max}
use native.Mathlib.Omega.{arith}
use mathlib.Core.Path.{◌≡◌, sym, ◌∙◌}
use borrow.Author.Tests.{lt-ltb, ltb-true}
use Rattle.book_words.specs.Layout.{opened_with}
use Rattle.book_words.proofs.WellLaws.{well_from_lem}
use Rattle.book_words.proofs.KeepsLaws.{opened_empty}
use Rattle.book.specs.Book.{shares}
use Rattle.report.specs.Report.{report_says}
use Rattle.book_history.specs.Claims.{StillGood, NeverMalformed, HeaderStays, StartsEmpty, SharesMeans, OnlyRefusedForRoom, OneOpening, OneAsk, OneNotice}
use Rattle.book_history.proofs.HistoryLaws.{begun_sound}

-- after an accepted opening and any history
pub still_good : StillGood
still_good s began = (begun_sound s began).fresh

pub never_malformed : NeverMalformed
never_malformed s began = well_from_lem _ (begun_sound s began).well

pub header_stays : HeaderStays
header_stays s began = let h = begun_sound s began in (h.registers, h.extent)

pub only_refused_for_room : OnlyRefusedForRoom
unfolding report_says
only_refused_for_room s began before says after promise = promise.result ∙ simp (never_malformed s began)

pub starts_empty : StartsEmpty
starts_empty r e slots before after promise i small =
    let is : after ≡ opened_with r e slots = rw (← promise.result) at promise.book in
    rw is (opened_empty r e slots i small)

pub shares_means : SharesMeans
unfolding shares
shares_means start size p = (
  λ is.
      let meet : max p.address start < min (p.address + p.length) (start + size) = ltb-true _ _ is in
      record {
        address = max p.address start;
        from = omega arith;
        to = omega arith;
        noticed_from = omega arith;
        noticed_to = omega arith;
      },
  λ one.
      let a = one.from in
      let b = one.to in
      let c = one.noticed_from in
      let d = one.noticed_to in
      lt-ltb (max p.address start) (min (p.address + p.length) (start + size)) (omega arith),
)

-- each promise is an equation for the result and for the words
pub one_opening : OneOpening
one_opening r e slots before x y after other a b = (a.result ∙ sym b.result, a.book ∙ sym b.book)

pub one_ask : OneAsk
one_ask ws base memory request x y after other a b = (a.result ∙ sym b.result, a.book ∙ sym b.book)

pub one_notice : OneNotice
one_notice ws start size x y after other a b = (a.result ∙ sym b.result, a.book ∙ sym b.book)
