-- How the report of a search ended, by how its listing did.
use Rattle.std.proofs.Common.{◌≡◌, ◌&&◌, ◌==◌, ℕ, List, Bool, true, false, refl, sym, subst}
use Rattle.std.specs.Prelude.{IfOk, Option, Some, None, Result, Ok, Err, not}
use Rattle.std.proofs.lemmas.Bool.{and_parts}
use Rattle.kr_args.specs.declared.forms.Ask.{Ask}
use Rattle.kr_base.specs.declared.span.Span.{Span}
use Rattle.kr_core.specs.declared.event.Event.{Event}
use Rattle.kr_mean.specs.Problem.{Problem}
use Rattle.kr_report.specs.Endings.{EndsListing}
use Rattle.kr_report.specs.Reports.{Answer}
use Rattle.kr_report_listing.specs.Traced.{EndsLogged, EndsTraced}
use Rattle.kr_report_streaming.specs.Followed.{followed_by}
use Rattle.kr_report_streaming.specs.Traces.{trace_text}
use Rattle.korat_top_reports.specs.Reports.{EndsBy, WithLog, broken, ended, is_one, listing_of, span_in}

untraced : (t : Bool) → not t ≡ true → t ≡ false
untraced false h = refl
untraced true h = absurd (cc (h))

module _ {K : Type 0} (taken : K → Option (List ℕ)) (faults : K → ℕ) (P : Problem) (a b : K) (status : ℕ) where
  pub reported : (Is : Answer → Type 0) (answer : Answer) → Is answer → EndsListing taken faults answer a b status → EndsBy taken faults Is answer a b status
  reported Is answer is x = ended answer is x

  -- no log is asked for
  pub plain : (ask : Ask) → ask.trace ≡ false → EndsListing taken faults (listing_of ask P) a b status → EndsBy taken faults (WithLog ask.trace ask P (listing_of ask P)) (listing_of ask P) a b status
  plain ask none x = ended (listing_of ask P) (subst (λ (t : Bool). WithLog t ask P (listing_of ask P) (listing_of ask P)) (sym none) refl) x

  pub by_one : (ask : Ask) → is_one ask ≡ true → EndsListing taken faults (listing_of ask P) a b status → EndsBy taken faults (WithLog ask.trace ask P (listing_of ask P)) (listing_of ask P) a b status
  by_one ask one x = plain ask (untraced ask.trace (and_parts (ask.workers == 1) (not ask.trace) one).1) x

  by_log : (ask : Ask) (log : Option (List Event)) → EndsLogged taken faults P (span_in ask) ask.workers ask.window ask.limit a b status log → EndsBy taken faults (WithLog true ask P (listing_of ask P)) (listing_of ask P) a b status
  by_log ask (Some log) x = ended (followed_by (trace_text log) (listing_of ask P)) (log, x.0, refl) x.1
  by_log ask None x = broken x

  -- a log is asked for
  pub traced : (ask : Ask) (span : Span) → span ≡ span_in ask → ask.trace ≡ true → EndsTraced taken faults P span ask.workers ask.window ask.limit a b status → EndsBy taken faults (WithLog ask.trace ask P (listing_of ask P)) (listing_of ask P) a b status
  traced ask span is some x =
      let own = subst (λ (s : Span). EndsTraced taken faults P s ask.workers ask.window ask.limit a b status) is x in
      subst (λ (t : Bool). EndsBy taken faults (WithLog t ask P (listing_of ask P)) (listing_of ask P) a b status) (sym some) (by_log ask own.log own.ends)

-- the same of calls that may be refused memory
module _ {K E : Type 0} (taken : K → Option (List ℕ)) (faults : K → ℕ) (P : Problem) (a b : K) where
  pub by_one_ok : (ask : Ask) (r : Result ℕ E) → is_one ask ≡ true → IfOk r (λ status. EndsListing taken faults (listing_of ask P) a b status)
      → IfOk r (λ status. EndsBy taken faults (WithLog ask.trace ask P (listing_of ask P)) (listing_of ask P) a b status)
  by_one_ok ask (Ok status) one x = by_one taken faults P a b status ask one x
  by_one_ok ask (Err e) one x = tt

  pub reported_ok : (Is : Answer → Type 0) (answer : Answer) (r : Result ℕ E) → Is answer → IfOk r (λ status. EndsListing taken faults answer a b status) → IfOk r (λ status. EndsBy taken faults Is answer a b status)
  reported_ok Is answer (Ok status) is x = reported taken faults P a b status Is answer is x
  reported_ok Is answer (Err e) is x = tt
