-- A listing or a test that is written with the log of its workers is accepted.
use Rattle.std.proofs.Common.{◌≡◌, ◌<◌, ◌≤◌, ℕ, ◌^◌, inl, inr, Bool, true, false, List, [], ◌∷◌, length, Option, refl, sym, ap, ◌∙◌, subst, arith}
use Rattle.std.proofs.lemmas.List.Elements.{recursion_from_All}
use Rattle.kr_args.specs.declared.forms.Ask.{Ask}
use Rattle.kr_base.specs.declared.span.Bound.{Bound}
use Rattle.kr_base.specs.declared.span.Bound.TheVariants.{At, End}
use Rattle.kr_base.specs.declared.entry.Entry.{Entry}
use Rattle.kr_base.specs.declared.entry.Mark.{Mark}
use Rattle.kr_base.specs.declared.entry.Mark.TheVariants.{Valid, Invalid, Spent}
use Rattle.kr_base.specs.Entries.{IsAmong}
use Rattle.kr_mean.specs.Entries.{all_entries}
use Rattle.kr_mean.specs.Problem.{Problem}
use Rattle.kr_mean.specs.Verdicts.{verdict_of}
use Rattle.kr_mean.specs.declared.kind.Verdict.{Verdict}
use Rattle.kr_mean.specs.declared.mode.Mode.{Mode}
use Rattle.kr_mean.specs.declared.mode.Mode.TheVariants.{List as Listing, Method as Testing}
use Rattle.kr_mean.specs.declared.row.Row.{Row}
use Rattle.kr_pool_desk.specs.Short.{IsShort, IsShortBound}
use Rattle.kr_report.specs.Reports.{Answer, bytes_of}
use Rattle.kr_report_streaming.specs.Followed.{followed_by}
use Rattle.kr_report_streaming.specs.Traces.{trace_text}
use Rattle.kr_shard_laws.specs.Entries.{IsLineAt, IsLined, MakesLines}
use Rattle.kr_shard_laws.specs.Listings.{IsBound, IsCut}
use Rattle.kr_shard_laws.proofs.Accepted.{accepted_lines, mode_of}
use Rattle.kr_shard_laws.proofs.EntryTexts.{entries_ascend, entries_lined}
use Rattle.kr_shard_laws.proofs.Tested.{tested}
use Rattle.kr_trace.specs.Checked.{checked as checked_text}
use Rattle.korat_top_files.specs.Steps.{LIMIT}
use Rattle.korat_top_reports.specs.Reports.{WithLog, listing_of, span_in}
use Rattle.korat_top_laws.specs.Readable.{AreReadable, IsModeOf, IsReadableRow}
use Rattle.korat_top_laws.specs.Traced.{IsAcceptedTrace, TracedLaw}
use Rattle.korat_top_laws.proofs.Accepted.{checked}
use Rattle.korat_top_laws.proofs.Asked.{IsAsked, asked_of, tested_of}
use Rattle.korat_top_laws.proofs.Logged.{accepted}
use Rattle.korat_top_laws.proofs.Verdicts.{IsJudged, judged_are, unjudged_are}

short : (cut : List ℕ) → IsCut cut → IsShort cut
short cut h = record { few = h.few; small = recursion_from_All (λ n. n < 2 ^ 32) cut h.small }

short_bound : (b : Bound) → IsBound b → IsShortBound b
short_bound (At cut) h = short cut h
short_bound End h = tt

module _ (problem : Problem) (tests : Bool) (judged : (vector : List ℕ) → IsJudged problem.program.table.headings tests (verdict_of problem vector)) where
  readable_row : (key : List ℕ) (m : Mark Row) → IsLineAt problem key m → IsReadableRow problem tests key m
  readable_row key (Valid row) h =
      let own : IsJudged problem.program.table.headings tests row.verdict = subst (λ (v : Option Verdict). IsJudged problem.program.table.headings tests v) (sym h.verdict) (judged h.vector) in
      (h.key_is, own.some, own.writable, h.some, h.line)
  readable_row key Invalid h = tt
  readable_row key Spent h = tt

  readable : (es : List (Entry Row)) → ((e : Entry Row) → IsAmong e es → IsLined problem e) → AreReadable problem tests es
  readable [] h = tt
  readable (e ∷ es) h =
      let one = h e (inl refl) in
      (record { some = one.some; short = short e.key one.cut; row = readable_row e.key e.mark one.row }, readable es (λ x among. h x (inr among)))

  accepts : (ask : Ask) (answer : Answer) → IsAsked ask → IsModeOf tests problem.mode → MakesLines problem
      → (t : Bool) → t ≡ true → WithLog t ask problem (listing_of ask problem) answer → length (bytes_of answer) ≤ 2 ^ 24 → IsAcceptedTrace ask problem answer
  accepts ask answer asked mode makes false off with few = absurd (cc (off))
  accepts ask answer asked mode makes true on with few =
      let log = with.0 in
      let is = with.1 in
      let workers : ask.workers ≤ 2 ^ 32 = (let w = asked.few in omega (arith, w)) in
      let some : 0 < ask.limit = (let l = asked.some in omega (arith, l)) in
      let small : ask.limit < 2 ^ 32 = (let l = asked.most in omega (arith, l)) in
      let same : bytes_of answer ≡ bytes_of (followed_by (trace_text log) (listing_of ask problem)) = ap (λ (a : Answer). bytes_of a) with.2 in
      let law = accepted problem tests mode (all_entries problem) (entries_ascend problem) (readable (all_entries problem) (entries_lined problem makes)) (span_in ask)
      (short ask.from asked.from) (short_bound ask.to asked.to) ask.workers ask.limit workers some small log is.traces is.unstopped is.past (subst (λ (t : List ℕ). length t ≤ 2 ^ 24) same few) in
      record {
        log = log;
        log_is = is;
        answer_is = with.2;
        accepted = ap (λ (t : List ℕ). checked_text (span_in ask) ask.workers t) same ∙ law;
      }

pub traced : TracedLaw
traced words Listing ask held problem answer said on steps reports few =
    let of = checked held Listing _ problem steps in
    let mode = mode_of of.sources of.fin Listing problem of.accepted_as in
    accepts problem false (unjudged_are problem mode) ask answer (asked_of words ask said) (subst (λ (m : Mode). IsModeOf false m) (sym mode) tt) (accepted_lines of.sources of.fin Listing problem of.accepted_as) ask.trace on reports few
traced words (Testing method) ask held problem answer said on steps reports few =
    let of = checked held (Testing method) _ problem steps in
    let mode = mode_of of.sources of.fin (Testing method) problem of.accepted_as in
    let own = tested LIMIT of.sources of.fin method problem of.short of.accepted_as in
    let lines : length own.method.contracts < 2 ^ 31 = (let l = own.few in omega (arith, l)) in
    accepts problem true (judged_are problem own.method own.is lines own.names) ask answer (tested_of words method ask said) (subst (λ (m : Mode). IsModeOf true m) (sym mode) tt)
    (accepted_lines of.sources of.fin (Testing method) problem of.accepted_as) ask.trace on reports few
