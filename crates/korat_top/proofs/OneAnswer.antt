-- Words and files have at most one answer, but for the log after it.
use Rattle.std.proofs.Common.{◌≡◌, ◌∙◌, ◌⊎◌, ◌++◌, ℕ, List, [], ◌∷◌, Bool, true, false, true≢false, ap, inl, inr, refl, subst, sym}
use Rattle.std.specs.Prelude.{Option, Some, None, Result, Ok, Err, option_map}
use Rattle.kr_args.specs.declared.forms.Ask.{Ask}
use Rattle.kr_args.specs.declared.forms.Command.{Command}
use Rattle.kr_args.specs.declared.forms.Command.TheVariants as commands
use Rattle.kr_args.specs.declared.forms.Search.{Search}
use Rattle.kr_args.specs.declared.forms.Search.TheVariants as searches
use Rattle.kr_core.specs.declared.event.Event.{Event}
use Rattle.kr_demo.specs.Texts.{source_text, finitization_text}
use Rattle.kr_mean.specs.Problem.{Problem}
use Rattle.kr_mean.specs.declared.mode.Mode.TheVariants.{List as Listing, Method as Testing}
use Rattle.kr_report.specs.Texts.{usage_text}
use Rattle.kr_report.specs.Reports.{Answer, line_answer}
use Rattle.kr_report_streaming.specs.Followed.{followed_by}
use Rattle.kr_report_streaming.specs.Traces.{trace_text}
use Rattle.korat_top_files.specs.Refusals.{Refusal, files_of}
use Rattle.kr_io.specs.Held.{Held}
use Rattle.korat_top_files.specs.OneOutcome.{HasOne, OneOutcome}
use Rattle.korat_top_files.specs.Upgrades.{Carries}
use Rattle.kr_shard.specs.Files.{MergesFiles, OneMerge}
use Rattle.kr_trace.specs.Files.{checked_file}
use Rattle.korat_top.specs.Answer.{IsAnswer, checked_answer, counted, inputs_of, merged, traced, searched, upgraded, usage, refused, refusal_answer, search_steps, searched_inputs, steps_of}
use Rattle.korat_top.specs.Ends.{AreOne, AreOneSearched, AreOneTraced, OneAnswer}
use Rattle.korat_top_reports.specs.Reports.{Reports, WithLog, counts_of, is_traced, listing_of, report_of}

-- ---- one outcome

one_search : OneOutcome → (held : Held) (search : Search) → HasOne (search_steps held search)
one_search laws held (searches.List ask) = laws.checking held Listing (files_of ask.fin ask.sources)
one_search laws held (searches.Test method ask) = laws.checking held (Testing method) (files_of ask.fin ask.sources)
one_search laws held (searches.Demo n workers) = laws.judging Listing (finitization_text n) (source_text n ∷ [])
one_search laws held (searches.Shard ask) = laws.checking held Listing (files_of ask.fin ask.sources)
one_search laws held (searches.Emit ask) = laws.building held (files_of ask.fin ask.sources)

-- steps that have one outcome make one thing, or refuse with one, and not both

abbrev made_or : {A : Type 0} → A → Result A Refusal → A
made_or other (Ok a) = a
made_or other (Err r) = other

abbrev refused_or : {A : Type 0} → Refusal → Result A Refusal → Refusal
refused_or other (Ok a) = other
refused_or other (Err r) = r

abbrev is_made : {A : Type 0} → Result A Refusal → Bool
is_made (Ok a) = true
is_made (Err r) = false

one_ok : {A : Type 0} (steps : Result A Refusal → Type 0) (a b : A) → HasOne steps → steps (Ok a) → steps (Ok b) → a ≡ b
one_ok {A} steps a b one h k = ap (λ (x : Result A Refusal). made_or a x) (one (Ok a) (Ok b) h k)

one_err : {A : Type 0} (steps : Result A Refusal → Type 0) (a b : Refusal) → HasOne steps → steps (Err a) → steps (Err b) → a ≡ b
one_err {A} steps a b one h k = ap (λ (x : Result A Refusal). refused_or a x) (one (Err a) (Err b) h k)

not_both : {A X : Type 0} (steps : Result A Refusal → Type 0) (a : A) (r : Refusal) → HasOne steps → steps (Ok a) → steps (Err r) → X
not_both {A} {X} steps a r one h k = absurd (true≢false (ap (λ (x : Result A Refusal). is_made x) (one (Ok a) (Err r) h k)))

-- ---- answers, by the command

-- the line of a refusal, or what comes of the problem
abbrev Comes : {A : Type 0} → (Result A Refusal → Type 0) → (Refusal → Answer) → (A → Answer → Type 0) → Answer → Type 0
Comes {A} steps line made a = ((r : Refusal) × steps (Err r) × (a ≡ line r)) ⊎ ((x : A) × steps (Ok x) × made x a)

abbrev Seen : Held → Option Command → Answer → Type 0
Seen held None a = a ≡ line_answer 2 usage_text
Seen held (Some (commands.Search search)) a = Comes (search_steps held search) (refusal_answer (searched_inputs search)) (Reports search) a
Seen held (Some (commands.Check fin sources)) a = Comes (steps_of held (commands.Check fin sources)) (refusal_answer (files_of fin sources)) (λ problem b. b ≡ counts_of problem) a
Seen held (Some (commands.Merge files)) a = MergesFiles held files a
Seen held (Some (commands.Trace file from to workers)) a = option_map checked_answer (checked_file held file (record { after = from; upto = to }) workers) ≡ Some a
Seen held (Some (commands.Upgrade fin)) a = Comes (Carries held fin) (refusal_answer (files_of fin [])) (λ text b. b ≡ line_answer 0 text) a

by_refusal : (held : Held) (command : Command) (refusal : Refusal) → steps_of held command (Err refusal) → Seen held (Some command) (refusal_answer (inputs_of command) refusal)
by_refusal held (commands.Search search) refusal h = inl (refusal, h, refl)
by_refusal held (commands.Check fin sources) refusal h = inl (refusal, h, refl)
by_refusal held (commands.Merge files) refusal h = absurd h
by_refusal held (commands.Trace file from to workers) refusal h = absurd h
by_refusal held (commands.Upgrade fin) refusal h = inl (refusal, h, refl)

seen : (held : Held) (asked : Option Command) (a : Answer) → IsAnswer held asked a → Seen held asked a
seen held asked a usage = refl
seen held asked a (refused {command = command} refusal h) = by_refusal held command refusal h
seen held asked a (searched problem answer h is) = inr (problem, h, is)
seen held asked a (counted problem h) = inr (problem, h, refl)
seen held asked a (merged answer h) = h
seen held asked a (traced checked h) = ap (option_map checked_answer) h
seen held asked a (upgraded text h) = inr (text, h, refl)

-- what determines its answer has one
one_by : {A : Type 0} (steps : Result A Refusal → Type 0) (line : Refusal → Answer) (made : A → Answer) (a b : Answer) → HasOne steps → Comes steps line (λ x c. c ≡ made x) a → Comes steps line (λ x c. c ≡ made x) b → a ≡ b
one_by steps line made a b one (inl x) (inl y) = x.2 ∙ (ap line (one_err steps x.0 y.0 one x.1 y.1) ∙ sym y.2)
one_by steps line made a b one (inl x) (inr y) = not_both steps y.0 x.0 one y.1 x.1
one_by steps line made a b one (inr x) (inl y) = not_both steps x.0 y.0 one x.1 y.1
one_by steps line made a b one (inr x) (inr y) = x.2 ∙ (ap made (one_ok steps x.0 y.0 one x.1 y.1) ∙ sym y.2)

-- ---- searches

-- without a trace what is written is the report
plain_report : (search : Search) (problem : Problem) (a : Answer) → is_traced search ≡ false → Reports search problem a → a ≡ report_of search problem
plain_report (searches.List ask) problem a none h = subst (λ (t : Bool). WithLog t ask problem (listing_of ask problem) a) none h
plain_report (searches.Test method ask) problem a none h = subst (λ (t : Bool). WithLog t ask problem (listing_of ask problem) a) none h
plain_report (searches.Demo n workers) problem a none h = h
plain_report (searches.Shard ask) problem a none h = h
plain_report (searches.Emit ask) problem a none h = h

-- with one, some log follows it
logged_report : (search : Search) (problem : Problem) (a : Answer) → is_traced search ≡ true → Reports search problem a → (log : List Event) × (a ≡ followed_by (trace_text log) (report_of search problem))
logged_report (searches.List ask) problem a some h = let k = subst (λ (t : Bool). WithLog t ask problem (listing_of ask problem) a) some h in (k.0, k.2)
logged_report (searches.Test method ask) problem a some h = let k = subst (λ (t : Bool). WithLog t ask problem (listing_of ask problem) a) some h in (k.0, k.2)
logged_report (searches.Demo n workers) problem a some h = absurd (cc (some))
logged_report (searches.Shard ask) problem a some h = absurd (cc (some))
logged_report (searches.Emit ask) problem a some h = absurd (cc (some))

abbrev ComesOf : Held → Search → Answer → Type 0
ComesOf held search a = Comes (search_steps held search) (refusal_answer (searched_inputs search)) (Reports search) a

plain_comes : (held : Held) (search : Search) (a : Answer) → is_traced search ≡ false → ComesOf held search a → Comes (search_steps held search) (refusal_answer (searched_inputs search)) (λ problem b. b ≡ report_of search problem) a
plain_comes held search a none (inl x) = inl x
plain_comes held search a none (inr x) = inr (x.0, x.1, plain_report search x.0 a none x.2)

traced_one : OneOutcome → (held : Held) (search : Search) (a b : Answer) → is_traced search ≡ true → ComesOf held search a → ComesOf held search b → AreOneTraced held search a b
traced_one laws held search a b some (inl x) (inl y) =
    let same = one_err (search_steps held search) x.0 y.0 (one_search laws held search) x.1 y.1 in
    inl (x.0, x.1, x.2, y.2 ∙ ap (refusal_answer (searched_inputs search)) (sym same))
traced_one laws held search a b some (inl x) (inr y) = not_both (search_steps held search) y.0 x.0 (one_search laws held search) y.1 x.1
traced_one laws held search a b some (inr x) (inl y) = not_both (search_steps held search) x.0 y.0 (one_search laws held search) x.1 y.1
traced_one laws held search a b some (inr x) (inr y) =
    let same : x.0 ≡ y.0 = one_ok (search_steps held search) x.0 y.0 (one_search laws held search) x.1 y.1 in
    let first = logged_report search x.0 a some x.2 in
    let second = logged_report search y.0 b some y.2 in
    inr (x.0, first.0, second.0, x.1, first.1, second.1 ∙ ap (λ (P : Problem). followed_by (trace_text second.0) (report_of search P)) (sym same))

by_trace : OneOutcome → (held : Held) (search : Search) (a b : Answer) (t : Bool) → is_traced search ≡ t → ComesOf held search a → ComesOf held search b → AreOneSearched t held search a b
by_trace laws held search a b false is x y =
    one_by (search_steps held search) (refusal_answer (searched_inputs search)) (report_of search) a b (one_search laws held search) (plain_comes held search a is x) (plain_comes held search b is y)
by_trace laws held search a b true is x y = traced_one laws held search a b is x y

one_seen : OneOutcome → OneMerge → (held : Held) (asked : Option Command) (a b : Answer) → Seen held asked a → Seen held asked b → AreOne held asked a b
one_seen laws merges held None a b x y = x ∙ sym y
one_seen laws merges held (Some (commands.Search search)) a b x y = by_trace laws held search a b (is_traced search) refl x y
one_seen laws merges held (Some (commands.Check fin sources)) a b x y =
    one_by (steps_of held (commands.Check fin sources)) (refusal_answer (files_of fin sources)) counts_of a b (laws.checking held Listing (files_of fin sources)) x y
one_seen laws merges held (Some (commands.Merge files)) a b x y = merges held files a b x y
one_seen laws merges held (Some (commands.Trace file from to workers)) a b x y = let same : Some a ≡ Some b = sym x ∙ y in cc (same)
one_seen laws merges held (Some (commands.Upgrade fin)) a b x y = one_by (Carries held fin) (refusal_answer (files_of fin [])) (line_answer 0) a b (laws.carrying held fin) x y

pub one_answer : OneOutcome → OneMerge → OneAnswer
one_answer outcome merges held asked a b x y = one_seen outcome merges held asked a b (seen held asked a x) (seen held asked b y)
