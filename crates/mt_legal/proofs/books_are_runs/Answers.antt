use Rattle.mt_legal.proofs.Books.{books}
use Rattle.mt_legal.proofs.Steps.{Laws}
use Rattle.mt_legal.proofs.books_are_runs.Goals as goal

pub returns : goal.returns
returns c =
    let laws : Laws = record {
      valid = c.wholes_are_valid.ensures.stays;
      heard = c.datagrams_are_lines.ensures;
      again = c.resends_are_lines.ensures;
      reported = c.reports_are_lines.ensures;
      ticked = c.ticks_are_lines.ensures;
      stay = c.subscriptions_stay.ensures;
      gained = c.subscriptions_are_gained.ensures;
    } in
    record {
      sent = λ node accounts book gots servable whole. (books laws c.begun_talks_serve.ensures node accounts book gots servable whole).sent;
      state = λ node accounts book gots servable whole. (books laws c.begun_talks_serve.ensures node accounts book gots servable whole).state;
      ledger = λ node accounts book gots servable whole. (books laws c.begun_talks_serve.ensures node accounts book gots servable whole).ledger;
    }
