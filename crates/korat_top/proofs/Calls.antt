-- How a call ends, by what it came to.
use Rattle.std.proofs.Common.{◌≡◌, ℕ, zero, suc, ◌<◌, ◌≤◌, ◌⊎◌, ◌++◌, [], List, Bool, true, false, take, refl, sym, ap, ◌∙◌, subst, inl, inr, lit≤, arith}
use Rattle.std.specs.Prelude.{Option, Some, None, Result, Ok, Err, is_ok, if◌then◌else◌}
use Rattle.std.proofs.lemmas.Bool.Decides.{leb_tells}
use Rattle.kr_base.specs.Causes.{Rose}
use Rattle.kr_base.specs.Told.{Added, Stopped, Writes}
use Rattle.kr_report.specs.Texts.{read_fault_text, memory_text, usage_text}
use Rattle.kr_mean.specs.Problem.{Problem}
use Rattle.kr_report.specs.Reports.{Answer, bytes_of, line_answer, lines}
use Rattle.kr_report.specs.Endings.{front_of, BreaksOff, MayBegin, EndsListing}
use Rattle.kr_args.specs.declared.forms.Ask.{Ask}
use Rattle.kr_args.specs.declared.forms.Command.{Command}
use Rattle.kr_args.specs.declared.forms.Command.TheVariants as commands
use Rattle.kr_args.specs.declared.forms.Search.{Search}
use Rattle.kr_args.specs.declared.forms.Search.TheVariants as searches
use Rattle.korat_top.specs.Answer.{IsAnswer, IsTold, ReadsFor, search_steps, searched, usage}
use Rattle.korat_top_reports.specs.Reports.{EndsReport, ended, broken, Reports, WithLog, listing_of, report_of}
use Rattle.kr_io.specs.Held.{Held}
use Rattle.korat_top.specs.Ends.{IsGiven, Outside, seen, Wrote, Broke, IsFront, MayTell, EndsFor, IsComplete}

-- what was put into a sink, as it is seen
abbrev Wrotes : {T E : Type 0} → Outside → Outside → List ℕ → Result T E → Type 0
Wrotes before after text r = Writes (λ (o : Outside). o.taken) (λ (o : Outside). o.write_faults) before after text r

added_seen : {F K : Type 0} (held : F → Held) (read_faults : F → ℕ) (last : F → Option (List ℕ)) (taken : K → Option (List ℕ)) (faults : K → ℕ) (files files' : F) (out out' : K) (text : List ℕ)
    → Added taken faults out out' text → Wrote (seen held read_faults last taken faults files out) (seen held read_faults last taken faults files' out') text
added_seen held read_faults last taken faults files files' out out' text x = record { no_fault = x.no_fault; bytes = x.bytes }

stopped_seen : {F K : Type 0} (held : F → Held) (read_faults : F → ℕ) (last : F → Option (List ℕ)) (taken : K → Option (List ℕ)) (faults : K → ℕ) (files files' : F) (out out' : K) (text : List ℕ)
    → Stopped taken faults out out' text → Broke (seen held read_faults last taken faults files out) (seen held read_faults last taken faults files' out') text
stopped_seen held read_faults last taken faults files files' out out' text x = record { later = x.later; bytes = x.bytes; cause = x.cause }

pub writes_seen : {F K T E : Type 0} (held : F → Held) (read_faults : F → ℕ) (last : F → Option (List ℕ)) (taken : K → Option (List ℕ)) (faults : K → ℕ) (files files' : F) (out out' : K) (text : List ℕ) (r : Result T E)
    → Writes taken faults out out' text r → Wrotes (seen held read_faults last taken faults files out) (seen held read_faults last taken faults files' out') text r
writes_seen held read_faults last taken faults files files' out out' text (Ok v) x = added_seen held read_faults last taken faults files files' out out' text x
writes_seen held read_faults last taken faults files files' out out' text (Err v) x = stopped_seen held read_faults last taken faults files files' out out' text x

low_known : (n : ℕ) → IsGiven n → n ≤ 10
low_known n (inl h) = omega (arith, h)
low_known n (inr (inl h)) = omega (arith, h)
low_known n (inr (inr h)) = omega (arith, h)

not_given : (n m : ℕ) → n ≡ m → 6 ≤ m → m ≤ 8 → IsGiven n → ⊥
not_given n m e low high (inl h) = omega (arith, e, low, h)
not_given n m e low high (inr (inl h)) = omega (arith, e, high, h)
not_given n m e low high (inr (inr h)) = omega (arith, e, high, h)

module _ (before after : Outside) (status : ℕ) where
  -- an answer's status
  given_end : (command : Command) (answer : Answer)
      → (IsTold before.held (Some command) → IsAnswer before.held (Some command) answer) → status ≡ answer.status → (status ≡ 2 → ⊥) → IsGiven status → after.read_faults ≡ before.read_faults → Wrote before after (bytes_of answer)
      → EndsFor (Some command) before after status
  given_end command answer told e no_usage low reads x = record {
    known = low_known status low;
    given = λ _ t. record { answer = answer; is_answer = told t; status_is = e; written = x };
    usage = λ f. absurd (no_usage f);
    no_command = λ f. absurd (cc (f));
    read_fault = λ f. absurd (not_given status 6 f (lit≤ tt) (lit≤ tt) low);
    no_write_fault = λ _. x.no_fault;
    no_read_fault = λ _ _. reads;
    write_fault = λ f. absurd (not_given status 7 f (lit≤ tt) (lit≤ tt) low);
    front = λ f _. absurd (not_given status 7 f (lit≤ tt) (lit≤ tt) low);
    memory = λ f. absurd (not_given status 8 f (lit≤ tt) (lit≤ tt) low);
  }

  -- a fault of the sink
  fault_end : (asked : Option Command) (text : List ℕ) → (IsTold before.held asked → MayTell before.held asked text) → Broke before after text → status ≡ 7 → EndsFor asked before after status
  fault_end asked text may x e = record {
    known = omega (arith, e);
    given = λ f _. absurd (not_given status 7 e (lit≤ tt) (lit≤ tt) f);
    usage = λ f. absurd (omega (arith, e, f));
    no_command = λ _. inr (inl e);
    read_fault = λ f. absurd (omega (arith, e, f));
    no_write_fault = λ g. absurd (g e);
    no_read_fault = λ _ g. absurd (g e);
    write_fault = λ _. x.cause;
    front = λ _ t. record { text = text; may = may t; written = x };
    memory = λ f. absurd (omega (arith, e, f));
  }

  -- out of memory
  memory_end : (asked : Option Command) (rows : List ℕ)
      → (IsTold before.held asked → IsFront before.held asked rows) → after.read_faults ≡ before.read_faults → Wrote before after (rows ++ memory_text) → status ≡ 8
      → EndsFor asked before after status
  memory_end asked rows front reads x e = record {
    known = omega (arith, e);
    given = λ f _. absurd (not_given status 8 e (lit≤ tt) (lit≤ tt) f);
    usage = λ f. absurd (omega (arith, e, f));
    no_command = λ _. inr (inr e);
    read_fault = λ f. absurd (omega (arith, e, f));
    no_write_fault = λ _. x.no_fault;
    no_read_fault = λ _ _. reads;
    write_fault = λ f. absurd (omega (arith, e, f));
    front = λ f _. absurd (omega (arith, e, f));
    memory = λ _. record { rows = rows; front = front; written = x };
  }

  -- an answer that is put
  pub put_answer : {T E : Type 0} (command : Command) (answer : Answer) (r : Result T E)
      → (IsTold before.held (Some command) → IsAnswer before.held (Some command) answer) → (answer.status ≡ 2 → ⊥) → IsGiven answer.status → after.read_faults ≡ before.read_faults
      → Wrotes before after (bytes_of answer) r → status ≡ (if is_ok r then answer.status else 7)
      → EndsFor (Some command) before after status
  put_answer command answer (Ok v) told no_usage low reads x e = given_end command answer told e (λ f. no_usage (sym e ∙ f)) (subst IsGiven (sym e) low) reads x
  put_answer command answer (Err v) told no_usage low reads x e = fault_end (Some command) (bytes_of answer) (λ t. inl (answer, told t, refl)) x e

  -- words that are no command
  usage_end : {T E : Type 0} (r : Result T E) → after.read_faults ≡ before.read_faults → Wrotes before after usage_text r → status ≡ (if is_ok r then 2 else 7) → EndsFor None before after status
  usage_end (Ok v) reads x e = record {
    known = omega (arith, e);
    given = λ _ _. record { answer = line_answer 2 usage_text; is_answer = usage; status_is = e; written = x };
    usage = λ _. refl;
    no_command = λ _. inl e;
    read_fault = λ f. absurd (omega (arith, e, f));
    no_write_fault = λ _. x.no_fault;
    no_read_fault = λ _ _. reads;
    write_fault = λ f. absurd (omega (arith, e, f));
    front = λ f _. absurd (omega (arith, e, f));
    memory = λ f. absurd (omega (arith, e, f));
  }
  usage_end (Err v) reads x e = fault_end None usage_text (λ _. inl (line_answer 2 usage_text, usage, refl)) x e

  pub put_usage : {T E : Type 0} (asked : Option Command) (r : Result T E) → asked ≡ None → after.read_faults ≡ before.read_faults → Wrotes before after usage_text r → status ≡ (if is_ok r then 2 else 7) → EndsFor asked before after status
  put_usage asked r none reads x e = subst (λ (a : Option Command). EndsFor a before after status) (sym none) (usage_end r reads x e)

  -- a read that failed
  pub put_read_fault : {T E : Type 0} (command : Command) (name : List ℕ) (r : Result T E)
      → ReadsFor before.held command name → after.last ≡ Some name → Rose before.read_faults after.read_faults → Wrotes before after (read_fault_text name) r → status ≡ (if is_ok r then 6 else 7)
      → EndsFor (Some command) before after status
  put_read_fault command name (Ok v) read named cause x e = record {
    known = omega (arith, e);
    given = λ f _. absurd (not_given status 6 e (lit≤ tt) (lit≤ tt) f);
    usage = λ f. absurd (omega (arith, e, f));
    no_command = λ f. absurd (cc (f));
    read_fault = λ _. record { command = command; name = name; asked_for = refl; read = read; named = named; cause = cause; written = x };
    no_write_fault = λ _. x.no_fault;
    no_read_fault = λ g _. absurd (g e);
    write_fault = λ f. absurd (omega (arith, e, f));
    front = λ f _. absurd (omega (arith, e, f));
    memory = λ f. absurd (omega (arith, e, f));
  }
  put_read_fault command name (Err v) read named cause x e = fault_end (Some command) (read_fault_text name) (λ _. inr (inl (command, name, refl, read, refl))) x e

  -- out of memory before any row
  pub put_memory : {T E : Type 0} (asked : Option Command) (r : Result T E) → after.read_faults ≡ before.read_faults → Wrotes before after memory_text r → status ≡ (if is_ok r then 8 else 7) → EndsFor asked before after status
  put_memory asked (Ok v) reads x e = memory_end asked [] (λ _. inl refl) reads x e
  put_memory asked (Err v) reads x e = fault_end asked memory_text (λ _. inr (inr ([], inl refl, refl))) x e

-- what is written of a search has the rows of its report

logged_rows : (trace : Bool) (ask : Ask) (problem : Problem) (report answer : Answer) → WithLog trace ask problem report answer → answer.rows ≡ report.rows
logged_rows false ask problem report answer h = ap (λ (a : Answer). a.rows) h
logged_rows true ask problem report answer h = ap (λ (a : Answer). a.rows) h.2

rows_same : (search : Search) (problem : Problem) (answer : Answer) → Reports search problem answer → answer.rows ≡ (report_of search problem).rows
rows_same (searches.List ask) problem answer h = logged_rows ask.trace ask problem (listing_of ask problem) answer h
rows_same (searches.Test method ask) problem answer h = logged_rows ask.trace ask problem (listing_of ask problem) answer h
rows_same (searches.Demo n workers) problem answer h = ap (λ (a : Answer). a.rows) h
rows_same (searches.Shard ask) problem answer h = ap (λ (a : Answer). a.rows) h
rows_same (searches.Emit ask) problem answer h = ap (λ (a : Answer). a.rows) h

-- a line has no rows
pub line_front : (held : Held) (asked : Option Command) (answer : Answer) (n : ℕ) → answer.rows ≡ [] → IsFront held asked (front_of answer n)
line_front held asked answer n none = inl (ap (λ (rows : List (List ℕ)). lines (take n rows)) none ∙ nothing n)
  where
    nothing : (k : ℕ) → lines (take k []) ≡ []
    nothing zero = refl
    nothing (suc k) = refl

may_tell : (held : Held) (asked : Option Command) (answer : Answer) (text : List ℕ) → IsAnswer held asked answer → ((n : ℕ) → IsFront held asked (front_of answer n)) → MayBegin answer text → MayTell held asked text
may_tell held asked answer text is front (inl e) = inl (answer, is, e)
may_tell held asked answer text is front (inr m) = inr (inr (front_of answer m.0, front m.0, m.1))

module _ {F K : Type 0} (held : F → Held) (read_faults : F → ℕ) (last : F → Option (List ℕ)) (taken : K → Option (List ℕ)) (faults : K → ℕ) (files files' : F) (out out' : K) (status : ℕ) where
  abbrev before : Outside
  before = seen held read_faults last taken faults files out

  abbrev after : Outside
  after = seen held read_faults last taken faults files' out'

  -- a listing that ended
  pub end_listing : (command : Command) (answer : Answer) → (IsTold (held files) (Some command) → IsAnswer (held files) (Some command) answer) → (IsTold (held files) (Some command) → (n : ℕ) → IsFront (held files) (Some command) (front_of answer n))
      → read_faults files' ≡ read_faults files → EndsListing taken faults answer out out' status → EndsFor (Some command) before after status
  end_listing command answer told front reads x = by_case x.known
    where
      whole : status < 6 → (status ≡ 2 → ⊥) → EndsFor (Some command) before after status
      whole low no_usage =
          let w = x.whole low in
          given_end before after status command answer told w.0 no_usage (inl low) reads (added_seen held read_faults last taken faults files files' out out' (bytes_of answer) w.1)

      by_case : (status ≡ 0) ⊎ (status ≡ 1) ⊎ (status ≡ 5) ⊎ (status ≡ 7) ⊎ (status ≡ 8) → EndsFor (Some command) before after status
      by_case (inl e) = whole (omega (arith, e)) (λ f. omega (arith, e, f))
      by_case (inr (inl e)) = whole (omega (arith, e)) (λ f. omega (arith, e, f))
      by_case (inr (inr (inl e))) = whole (omega (arith, e)) (λ f. omega (arith, e, f))
      by_case (inr (inr (inr (inl e)))) =
          let f = x.fault e in
          fault_end before after status (Some command) f.0 (λ t. may_tell (held files) (Some command) answer f.0 (told t) (front t) f.1) (stopped_seen held read_faults last taken faults files files' out out' f.0 f.2) e
      by_case (inr (inr (inr (inr e)))) =
          let m = x.memory e in
          memory_end before after status (Some command) (front_of answer m.0) (λ t. front t m.0) reads (added_seen held read_faults last taken faults files files' out out' (front_of answer m.0 ++ memory_text) m.1) e

  -- a report that broke off in its rows
  end_broken : (command : Command) (report : Answer) → (IsTold (held files) (Some command) → (n : ℕ) → IsFront (held files) (Some command) (front_of report n)) → read_faults files' ≡ read_faults files → BreaksOff taken faults report out out' status
      → EndsFor (Some command) before after status
  end_broken command report front reads x = by_case x.known
    where
      by_case : (status ≡ 7) ⊎ (status ≡ 8) → EndsFor (Some command) before after status
      by_case (inl e) =
          let f = x.fault e in
          fault_end before after status (Some command) (front_of report f.0 ++ memory_text) (λ t. inr (inr (front_of report f.0, front t f.0, refl))) (stopped_seen held read_faults last taken faults files files' out out' (front_of report f.0 ++ memory_text) f.1) e
      by_case (inr e) =
          let m = x.memory e in
          memory_end before after status (Some command) (front_of report m.0) (λ t. front t m.0) reads (added_seen held read_faults last taken faults files files' out out' (front_of report m.0 ++ memory_text) m.1) e

  -- the report of a search
  pub end_search : (search : Search) (problem : Problem) → (IsTold (held files) (Some (commands.Search search)) → search_steps (held files) search (Ok problem)) → read_faults files' ≡ read_faults files → EndsReport taken faults search problem out out' status
      → EndsFor (Some (commands.Search search)) before after status
  end_search search problem steps reads (ended answer is ends) =
      end_listing (commands.Search search) answer (λ t. searched problem answer (steps t) is)
      (λ t n. inr (search, problem, n, refl, steps t, ap (λ (rows : List (List ℕ)). lines (take n rows)) (rows_same search problem answer is))) reads ends
  end_search search problem steps reads (broken x) = end_broken (commands.Search search) (report_of search problem) (λ t n. inr (search, problem, n, refl, steps t, refl)) reads x

last_given : (n : ℕ) → 9 ≤ n → n ≤ 10 → IsGiven n
last_given n low high = elim (leb_tells n 9) [
  | inl a ↦ inr (inl (omega (arith, a.1, low)))
  | inr a ↦ inr (inr (omega (arith, a.1, high)))
]

split : (n : ℕ) → n ≤ 10 → IsGiven n ⊎ (n ≡ 6) ⊎ (n ≡ 7) ⊎ (n ≡ 8)
split n h = elim (leb_tells n 5) [
  | inl a ↦ inl (inl (omega (arith, a.1)))
  | inr a ↦ elim (leb_tells n 6) [
    | inl b ↦ inr (inl (omega (arith, a.1, b.1)))
    | inr b ↦ elim (leb_tells n 7) [
      | inl d ↦ inr (inr (inl (omega (arith, b.1, d.1))))
      | inr d ↦ elim (leb_tells n 8) [ inl e ↦ inr (inr (inr (omega (arith, d.1, e.1)))) | inr e ↦ inl (last_given n (omega (arith, e.1)) h) ]
    ]
  ]
]

-- where nothing failed, the answer was given, or memory ran out
pub complete : (asked : Option Command) (before after : Outside) (status : ℕ) → EndsFor asked before after status → IsComplete asked before after status
complete asked before after status x told no_read no_write = elim (split status x.known) [
  | inl low ↦ inr (x.given low told)
  | inr (inl e) ↦ absurd (no_read (x.read_fault e).cause)
  | inr (inr (inl e)) ↦ absurd (no_write (x.write_fault e))
  | inr (inr (inr e)) ↦ inl e
]
