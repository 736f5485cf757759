-- A command that reads files has from one source to the most: a walk that breaks no rule uses their argument once, with
-- a count in that range.
use Rattle.std.proofs.Common.{◌≡◌, ◌∙◌, ◌&&◌, ◌||◌, ◌≤◌, ◌++◌, inl, inr, ℕ, Bool, true, false, true≢false, List, [], ◌∷◌, Option, Some, None, arith, eqb, length, nat_lt, refl, subst, sym}
use Rattle.std.specs.Prelude.{IfSome, codes, find, fold, if◌then◌else◌, not, option_and_then, option_map}
use Rattle.std.specs.List.{AllByRecursion, list_all}
use Rattle.std.specs.Option.{option_map_or}
use Rattle.std.specs.Str.{bytes_eq}
use Rattle.std.proofs.lemmas.Slice.Eq.{bytes_eq-Decides}
use Rattle.std.proofs.lemmas.Bool.Decides.{nat_tests}
use Rattle.std.proofs.lemmas.Bool.{and_parts, or_cases}
use Rattle.clap.specs.Facts.{unwrap_or_range}
use Rattle.clap.specs.Kinds.{Kinds, range_kinds}
use Rattle.clap.specs.Walk.{Row, Rule, Text, action_of, all_of, answers_to, at_row, default_rows, first_of, has_row, is_empty, more_values, most_values, nothing_held, reading_by, rows_after, settled, used, used_as, values_or_missing, walk, walk_from, with_default, with_values, without}
use Rattle.clap.specs.Simple.{App, Shape, argument_words, built, entered, label_of, names_of, rows_at, subcommand_of}
use Rattle.clap.specs.Faults.{action_fault, entered_fault, fault_of, level_fault, repeat_fault, use_fault, values_fault, walk_fault}
use Rattle.clap.specs.declared.builder.action.ArgAction.{ArgAction}
use Rattle.clap.specs.declared.builder.action.ArgAction.TheVariants as actions
use Rattle.clap.specs.declared.parser.matches.ValueSource.{ValueSource}
use Rattle.clap.specs.declared.parser.matches.ValueSource.TheVariants.{CommandLine, DefaultValue}
use Rattle.clap.specs.declared.error.kind.ErrorKind.TheVariants as kind
use Rattle.clap.proofs.OnLiterals.{clap_on_literals}
use Rattle.kr_base.specs.declared.span.Bound.{Bound}
use Rattle.kr_args.specs.Definition.{MOST_SOURCES, korat_app}
use Rattle.kr_args.specs.Sources.{AreSources, HasSources}
use Rattle.kr_args.specs.Reading.{Files, Range, Sharing, ask_in, ask_with, check_in, command_in, command_of, demo_in, demo_with, files_in, files_with, list_in, merge_in, upgrade_in, emit_in, alone_sharing, named_in, number_in, plain_sharing_in, range_in, shard_in, sharing_in, span_in, test_in, test_with, trace_in, trace_with, from_in, to_in, workers_in}
use Rattle.kr_args.specs.declared.forms.Ask.{Ask}
use Rattle.kr_args.specs.declared.forms.Command.TheVariants as commands
use Rattle.kr_args.specs.declared.forms.Search.TheVariants as searches
use Rattle.kr_args.proofs.Walks.{Keeps, both_none, level_kept}

both_false : (a b : Bool) → (a || b) ≡ false → (a ≡ false) × (b ≡ false)
both_false true b h = absurd (cc (h))
both_false false b h = (refl, h)

-- a search finds an element that passes a test that all pass
found_passes : {X : Type 0} (test q : X → Bool) (xs : List X) (x : X) → list_all test xs ≡ true → find q xs ≡ Some x → test x ≡ true
found_passes test q [] x all found = absurd (cc (found))
found_passes {X} test q (y ∷ ys) x all found =
    let each = and_parts (test y) (list_all test ys) all in
    by_first (q y) (λ later. found_passes test q ys x each.1 later) each.0 found
  where
    by_first : (b : Bool) → (find q ys ≡ Some x → test x ≡ true) → test y ≡ true → (if b then Some y else find q ys) ≡ Some x → test x ≡ true
    by_first true later here is = let same : y ≡ x = cc (is) in subst (λ (z : X). test z ≡ true) same here
    by_first false later here is = later is

-- ---- the rows of the sources

abbrev is_source : Text → Bool
is_source id = bytes_eq id (codes "source")

abbrev IsBounded : Row → Type 0
IsBounded r = is_source r.id ≡ true → AreSources r.values

abbrev AreBounded : List Row → Type 0
AreBounded = AllByRecursion IsBounded

both_bounded : (rows more : List Row) → AreBounded rows → AreBounded more → AreBounded (rows ++ more)
both_bounded [] more h m = m
both_bounded (r ∷ rows) more h m = (h.0, both_bounded rows more h.1 m)

-- another argument's row is changed
module _ (id : Text) (change : Row → List Row) (missing : List Row)
    (other : is_source id ≡ false) (changed : (r : Row) → is_source r.id ≡ false → AreBounded (change r)) (new : AreBounded missing) where
  other_bounded : (rows : List Row) → AreBounded rows → AreBounded (at_row id change missing rows)
  other_bounded [] h = new
  other_bounded (r ∷ rows) h = by_id (bytes_eq r.id id) refl (other_bounded rows h.1)
    where
      by_id : (b : Bool) → bytes_eq r.id id ≡ b → AreBounded (at_row id change missing rows) → AreBounded (if b then change r ++ rows else r ∷ at_row id change missing rows)
      by_id true is later =
          let same : id ≡ r.id = sym ((bytes_eq-Decides r.id id).0 is) in
          both_bounded (change r) rows (changed r (subst (λ (text : Text). is_source text ≡ false) same other)) h.1
      by_id false is later = (h.0, later)

-- a new row is added
module _ (id : Text) (change : Row → List Row) (missing : List Row) (new : AreBounded missing) where
  new_bounded : (rows : List Row) → has_row id rows ≡ false → AreBounded rows → AreBounded (at_row id change missing rows)
  new_bounded [] absent h = new
  new_bounded (r ∷ rows) absent h =
      let each = both_false (bytes_eq r.id id) (has_row id rows) absent in
      by_id (bytes_eq r.id id) each.0 (h.0, new_bounded rows each.1 h.1)
    where
      by_id : (b : Bool) → b ≡ false → AreBounded (r ∷ at_row id change missing rows) → AreBounded (if b then change r ++ rows else r ∷ at_row id change missing rows)
      by_id true is k = absurd (true≢false is)
      by_id false is k = k

absent_without : (id : Text) (rows : List Row) → has_row id rows ≡ false → has_row id (without id rows) ≡ false
absent_without id [] absent = refl
absent_without id (r ∷ rows) absent =
    let each = both_false (bytes_eq r.id id) (has_row id rows) absent in
    by_id (bytes_eq r.id id) each.0 (absent_without id rows each.1) refl
  where
    by_id : (b : Bool) → b ≡ false → has_row id (without id rows) ≡ false → bytes_eq r.id id ≡ b → has_row id (if b then [] ++ rows else r ∷ without id rows) ≡ false
    by_id true is k e = absurd (true≢false is)
    by_id false is k e = rw e k

-- ---- one use of an argument

abbrev is_set : ArgAction → Bool
is_set actions.Set = true
is_set _ = false

set_is : (action : ArgAction) → is_set action ≡ true → action ≡ actions.Set
set_is actions.Set e = refl
set_is actions.Append e = absurd (cc (e))
set_is actions.SetTrue e = absurd (cc (e))
set_is actions.SetFalse e = absurd (cc (e))
set_is actions.Count e = absurd (cc (e))
set_is actions.Help e = absurd (cc (e))
set_is actions.HelpShort e = absurd (cc (e))
set_is actions.HelpLong e = absurd (cc (e))
set_is actions.Version e = absurd (cc (e))

abbrev is_flag : ArgAction → Bool
is_flag actions.SetTrue = true
is_flag _ = false

flag_is : (action : ArgAction) → is_flag action ≡ true → action ≡ actions.SetTrue
flag_is actions.SetTrue e = refl
flag_is actions.Set e = absurd (cc (e))
flag_is actions.Append e = absurd (cc (e))
flag_is actions.SetFalse e = absurd (cc (e))
flag_is actions.Count e = absurd (cc (e))
flag_is actions.Help e = absurd (cc (e))
flag_is actions.HelpShort e = absurd (cc (e))
flag_is actions.HelpLong e = absurd (cc (e))
flag_is actions.Version e = absurd (cc (e))

abbrev is_ranged : Rule → Bool
is_ranged a = eqb (unwrap_or_range a.range).start_inclusive 1 && eqb (most_values a) MOST_SOURCES

-- it has values, is used at most once, has no default, and, if it is that of the sources, takes from one value to the
-- most
abbrev is_valued : Rule → Bool
is_valued a = is_set (action_of a) && (is_empty a.defaults && (not (is_source a.id) || is_ranged a))

-- it is a flag, and not that of the sources
abbrev is_switch : Rule → Bool
is_switch a = is_flag (action_of a) && not (is_source a.id)

abbrev is_plain : Rule → Bool
is_plain a = is_valued a || is_switch a

not_true : (a : Bool) → not a ≡ true → a ≡ false
not_true false h = refl
not_true true h = absurd (true≢false (sym h))

abbrev are_plain : Shape → Bool
are_plain s = not s.args_override_self && list_all is_plain s.rules

in_range : (least most n : ℕ) → eqb least 1 ≡ true → eqb most MOST_SOURCES ≡ true → range_kinds least most n ≡ [] → (1 ≤ n) × (n ≤ MOST_SOURCES)
in_range least most n l m none =
    let least_is : least ≡ 1 = grind (arith, nat_tests) in
    let most_is : most ≡ 16 = grind (arith, nat_tests) in
    by_tests (eqb n 0) (nat_lt n 1) (nat_lt 16 n) refl refl (subst (λ k. range_kinds 1 k n ≡ []) most_is (subst (λ k. range_kinds k most n ≡ []) least_is none))
  where
    by_tests : (a b d : Bool) → nat_lt n 1 ≡ b → nat_lt 16 n ≡ d
        → (if a then kind.InvalidValue ∷ [] else (if b then kind.TooFewValues ∷ [] else (if d then kind.TooManyValues ∷ [] else []))) ≡ [] → (1 ≤ n) × (n ≤ MOST_SOURCES)
    by_tests true b d x y e = absurd (cc (e))
    by_tests false true d x y e = absurd (cc (e))
    by_tests false false true x y e = absurd (cc (e))
    by_tests false false false x y e = (grind (arith, nat_tests), grind (arith, nat_tests))

repeat_none : (present again : Bool) → again ≡ false → (if present && not again then kind.ArgumentConflict ∷ [] else []) ≡ [] → present ≡ false
repeat_none false again a e = refl
repeat_none true true a e = absurd (true≢false a)
repeat_none true false a e = absurd (cc (e))

set_bounded : (again : Bool) (a : Rule) (values : List Text) (rows : List Row) → again ≡ false → (not (is_source a.id) || is_ranged a) ≡ true
    → range_kinds (unwrap_or_range a.range).start_inclusive (most_values a) (length values) ≡ [] → repeat_fault again a.id rows ≡ [] → AreBounded rows
    → AreBounded (with_values a.id (reading_by a) CommandLine (values_or_missing a values) (without a.id rows))
set_bounded again a values rows no_more ranged range once h = by_source (is_source a.id) refl ranged
  where
    row : Row
    row = record { id = a.id; values = values_or_missing a values; count = None; source = Some CommandLine; reading = reading_by a }

    fitting : (vs : List Text) → AreSources vs → AreSources (values_or_missing a vs)
    fitting [] w = absurd (omega (arith, w.0))
    fitting (v ∷ vs) w = w

    by_source : (b : Bool) → is_source a.id ≡ b → (not b || is_ranged a) ≡ true → AreBounded (with_values a.id (reading_by a) CommandLine (values_or_missing a values) (without a.id rows))
    by_source false is r =
        let none : (t : Row) → is_source t.id ≡ false → AreBounded [] = λ t e. tt in
        other_bounded a.id (more_values CommandLine (values_or_missing a values)) (row ∷ []) is (λ t e. ((λ s. absurd (true≢false (sym s ∙ e))), tt)) ((λ s. absurd (true≢false (sym s ∙ is))), tt)
        (without a.id rows) (other_bounded a.id (λ _. []) [] is none tt rows h)
    by_source true is r =
        let absent = repeat_none (has_row a.id rows) again no_more once in
        let ends = and_parts (eqb (unwrap_or_range a.range).start_inclusive 1) (eqb (most_values a) MOST_SOURCES) r in
        let within = in_range (unwrap_or_range a.range).start_inclusive (most_values a) (length values) ends.0 ends.1 range in
        new_bounded a.id (more_values CommandLine (values_or_missing a values)) (row ∷ []) ((λ s. fitting values within), tt)
        (without a.id rows) (absent_without a.id rows absent) (new_bounded a.id (λ _. []) [] tt rows absent h)

use_kept : (s : Shape) → not s.args_override_self ≡ true → (a : Rule) (values : List Text) (rows : List Row) → is_valued a ≡ true → use_fault s.args_override_self a values rows ≡ []
    → AreBounded rows → AreBounded (used a values rows)
use_kept s over a values rows rule none h =
    let first = and_parts (is_set (action_of a)) (is_empty a.defaults && (not (is_source a.id) || is_ranged a)) rule in
    let second = and_parts (is_empty a.defaults) (not (is_source a.id) || is_ranged a) first.1 in
    let action = set_is (action_of a) first.0 in
    let once = once_only s.args_override_self over in
    let each = both_none (range_kinds (unwrap_or_range a.range).start_inclusive (most_values a) (length values)) _ none in
    let acted = subst (λ (act : ArgAction). action_fault act s.args_override_self a (values_or_missing a values) rows ≡ []) action each.1 in
    let repeated = both_none (repeat_fault s.args_override_self a.id rows) (values_fault a (values_or_missing a values)) acted in
    subst (λ (act : ArgAction). AreBounded (used_as act a.id (reading_by a) (values_or_missing a values) rows)) (sym action)
    (set_bounded s.args_override_self a values rows once second.1 each.0 repeated.0 h)
  where
    once_only : (again : Bool) → not again ≡ true → again ≡ false
    once_only false e = refl
    once_only true e = absurd (true≢false (sym e))

-- rows of another argument are added
other_values : (source : ValueSource) (a : Rule) (values : List Text) (rows : List Row) → is_source a.id ≡ false → AreBounded rows
    → AreBounded (with_values a.id (reading_by a) source values rows)
other_values source a values rows is h =
    other_bounded a.id (more_values source values) (row ∷ []) is (λ t e. ((λ s. absurd (true≢false (sym s ∙ e))), tt)) ((λ s. absurd (true≢false (sym s ∙ is))), tt) rows h
  where
    row : Row
    row = record { id = a.id; values = values; count = None; source = Some source; reading = reading_by a }

flag_bounded : (a : Rule) (values : List Text) (rows : List Row) → is_switch a ≡ true → AreBounded rows
    → AreBounded (used_as (action_of a) a.id (reading_by a) (values_or_missing a values) rows)
flag_bounded a values rows switch h =
    let both = and_parts (is_flag (action_of a)) (not (is_source a.id)) switch in
    let is = not_true (is_source a.id) both.1 in
    let none : (t : Row) → is_source t.id ≡ false → AreBounded [] = λ t e. tt in
    subst (λ (act : ArgAction). AreBounded (used_as act a.id (reading_by a) (values_or_missing a values) rows)) (sym (flag_is (action_of a) both.0))
    (other_values CommandLine a (values_or_missing a values) (without a.id rows) is (other_bounded a.id (λ _. []) [] is none tt rows h))

-- a use that breaks no rule
uses_kept : (s : Shape) → are_plain s ≡ true → Keeps s.rules s.args_override_self AreBounded
uses_kept s plain a values rows of none h =
    let shape = and_parts (not s.args_override_self) (list_all is_plain s.rules) plain in
    elim (or_cases (is_valued a) (is_switch a) (found_passes is_plain of.0 s.rules a shape.1 of.1)) [
      | inl valued ↦ use_kept s shape.0 a values rows valued none h
      | inr switch ↦ flag_bounded a values rows switch h
    ]

-- ---- the rows of a level

valued_default : (a : Rule) (rows : List Row) → is_empty a.defaults ≡ true → AreBounded rows → AreBounded (with_default rows a)
valued_default a rows none h = by_row (has_row a.id rows)
  where
    by_defaults : (texts : List Text) → is_empty texts ≡ true → AreBounded (default_rows a.id (reading_by a) texts rows)
    by_defaults [] e = h
    by_defaults (t ∷ texts) e = let some : is_empty (t ∷ texts) ≡ false = grind arith in absurd (true≢false (sym e ∙ some))

    by_row : (b : Bool) → AreBounded (if b then rows else default_rows a.id (reading_by a) a.defaults rows)
    by_row true = h
    by_row false = by_defaults a.defaults none

switch_default : (a : Rule) (rows : List Row) → is_source a.id ≡ false → AreBounded rows → AreBounded (with_default rows a)
switch_default a rows other h = by_row (has_row a.id rows)
  where
    by_defaults : (texts : List Text) → AreBounded (default_rows a.id (reading_by a) texts rows)
    by_defaults [] = h
    by_defaults (t ∷ texts) = other_values DefaultValue a (t ∷ texts) rows other h

    by_row : (b : Bool) → AreBounded (if b then rows else default_rows a.id (reading_by a) a.defaults rows)
    by_row true = h
    by_row false = by_defaults a.defaults

default_bounded : (a : Rule) (rows : List Row) → is_plain a ≡ true → AreBounded rows → AreBounded (with_default rows a)
default_bounded a rows plain h = elim (or_cases (is_valued a) (is_switch a) plain) [
  | inl valued ↦
      let first = and_parts (is_set (action_of a)) (is_empty a.defaults && (not (is_source a.id) || is_ranged a)) valued in
      valued_default a rows (and_parts (is_empty a.defaults) (not (is_source a.id) || is_ranged a) first.1).0 h
  | inr switch ↦ switch_default a rows (not_true (is_source a.id) (and_parts (is_flag (action_of a)) (not (is_source a.id)) switch).1) h
]

defaults_bounded : (c : List Rule) (rows : List Row) → list_all is_plain c ≡ true → AreBounded rows → AreBounded (fold with_default rows c)
defaults_bounded [] rows plain h = h
defaults_bounded (a ∷ c) rows plain h =
    let each = and_parts (is_plain a) (list_all is_plain c) plain in
    defaults_bounded c (with_default rows a) each.1 (default_bounded a rows each.0 h)

level_bounded : (s : Shape) (words : List Text) → are_plain s ≡ true → level_fault s [] nothing_held words false [] ≡ [] → AreBounded (rows_after s.rules [] words)
level_bounded s words plain none =
    let shape = and_parts (not s.args_override_self) (list_all is_plain s.rules) plain in
    defaults_bounded s.rules (settled s.rules (walk s.rules [] nothing_held words).held).rows shape.1
    (level_kept s [] AreBounded (uses_kept s plain) nothing_held words false [] none tt)

entered_bounded : (a : App) (stop : Option (Text × List Text)) → list_all are_plain a.subs ≡ true → entered_fault a stop ≡ [] → IfSome (entered a stop) (λ met. AreBounded met.1)
entered_bounded a None plain none = tt
entered_bounded a (Some p) plain none = by_shape (find (λ s. answers_to p.0 (label_of s)) a.subs) refl none
  where
    by_shape : (o : Option Shape) → find (λ s. answers_to p.0 (label_of s)) a.subs ≡ o → option_map_or (λ s. level_fault s [] nothing_held p.1 false []) o [] ≡ []
        → IfSome (option_map (λ s. rows_at s p.1) o) (λ met. AreBounded met.1)
    by_shape None is e = tt
    by_shape (Some s) is e = level_bounded s p.1 (found_passes are_plain (λ t. answers_to p.0 (label_of t)) a.subs s plain is) e

words_bounded : (a : App) (words : List Text) → list_all are_plain (built a).subs ≡ true → fault_of a words ≡ [] → IfSome (subcommand_of a words) (λ met. AreBounded met.1)
words_bounded a words plain none =
    let top = built a in
    let stop = (walk top.top.rules (names_of top) nothing_held (argument_words a words)).stopped in
    let first = both_none (walk_fault top.top (names_of top) (walk_from nothing_held) (argument_words a words)) _ none in
    let second = both_none (entered_fault top stop) _ first.1 in
    entered_bounded top stop plain second.0

-- ---- the command

found_bounded : (rows : List Row) → AreBounded rows → IfSome (all_of (codes "source") rows) AreSources
found_bounded [] h = tt
found_bounded (r ∷ rows) h = by_id (is_source r.id) refl (found_bounded rows h.1)
  where
    by_id : (b : Bool) → is_source r.id ≡ b → IfSome (all_of (codes "source") rows) AreSources → IfSome (option_map (λ (t : Row). t.values) (if b then Some r else find (λ t. is_source t.id) rows)) AreSources
    by_id true is later = h.0 is
    by_id false is later = later

files_bounded : (fin : Option Text) (sources : Option (List Text)) → IfSome sources AreSources → IfSome (files_with fin sources) (λ files. AreSources files.1)
files_bounded None sources h = tt
files_bounded (Some fin) None h = tt
files_bounded (Some fin) (Some sources) h = h

ask_bounded : (files : Option Files) (range : Option Range) (sharing : Option Sharing) → IfSome files (λ f. AreSources f.1) → IfSome (ask_with files range sharing) (λ ask. AreSources ask.sources)
ask_bounded None range sharing h = tt
ask_bounded (Some files) None sharing h = tt
ask_bounded (Some files) (Some range) None h = tt
ask_bounded (Some files) (Some range) (Some sharing) h = h

list_bounded : (ask : Option Ask) → IfSome ask (λ a. AreSources a.sources) → IfSome (option_map (λ a. commands.Search (searches.List a)) ask) HasSources
list_bounded None h = tt
list_bounded (Some ask) h = h

test_bounded : (method : Option Text) (ask : Option Ask) → IfSome ask (λ a. AreSources a.sources) → IfSome (test_with method ask) HasSources
test_bounded None ask h = tt
test_bounded (Some method) None h = tt
test_bounded (Some method) (Some ask) h = h

check_bounded : (files : Option Files) → IfSome files (λ f. AreSources f.1) → IfSome (option_map (λ f. commands.Check f.0 f.1) files) HasSources
check_bounded None h = tt
check_bounded (Some files) h = h

demo_bounded : (n workers : Option ℕ) → IfSome (demo_with n workers) HasSources
demo_bounded None workers = tt
demo_bounded (Some n) None = tt
demo_bounded (Some n) (Some workers) = tt

shard_bounded : (ask : Option Ask) → IfSome ask (λ a. AreSources a.sources) → IfSome (option_map (λ a. commands.Search (searches.Shard a)) ask) HasSources
shard_bounded None h = tt
shard_bounded (Some ask) h = h

emit_bounded : (ask : Option Ask) → IfSome ask (λ a. AreSources a.sources) → IfSome (option_map (λ a. commands.Search (searches.Emit a)) ask) HasSources
emit_bounded None h = tt
emit_bounded (Some ask) h = h

merge_bounded : (files : Option (List Text)) → IfSome (option_map commands.Merge files) HasSources
merge_bounded None = tt
merge_bounded (Some files) = tt

upgrade_bounded : (fin : Option Text) → IfSome (option_map commands.Upgrade fin) HasSources
upgrade_bounded None = tt
upgrade_bounded (Some fin) = tt

trace_bounded : (file : Option Text) (from : Option (List ℕ)) (to : Option Bound) (workers : Option ℕ) → IfSome (trace_with file from to workers) HasSources
trace_bounded None from to workers = tt
trace_bounded (Some file) None to workers = tt
trace_bounded (Some file) (Some from) None workers = tt
trace_bounded (Some file) (Some from) (Some to) None = tt
trace_bounded (Some file) (Some from) (Some to) (Some workers) = tt

named_bounded : (name : Text) (rows : List Row) → AreBounded rows → IfSome (named_in name rows) HasSources
named_bounded name rows h = by_name (bytes_eq name (codes "list")) (bytes_eq name (codes "test")) (bytes_eq name (codes "check")) (bytes_eq name (codes "demo")) (bytes_eq name (codes "shard")) (bytes_eq name (codes "merge")) (bytes_eq name (codes "upgrade")) (bytes_eq name (codes "trace")) (bytes_eq name (codes "emit"))
  where
    workers : Option ℕ
    workers = workers_in (first_of (codes "workers") rows)

    files : IfSome (files_in rows) (λ f. AreSources f.1)
    files = files_bounded (first_of (codes "fin") rows) (all_of (codes "source") rows) (found_bounded rows h)

    asks : IfSome (ask_in rows) (λ a. AreSources a.sources)
    asks = ask_bounded (files_in rows) (range_in rows) (sharing_in rows) files

    spans : IfSome (ask_with (files_in rows) (span_in rows) (plain_sharing_in rows)) (λ a. AreSources a.sources)
    spans = ask_bounded (files_in rows) (span_in rows) (plain_sharing_in rows) files

    by_name : (a b c d e f g h i : Bool) → IfSome (if a then list_in rows else (if b then test_in rows else (if c then check_in rows else (if d then demo_in rows else (if e then shard_in rows else (if f then merge_in rows else (if g then upgrade_in rows else (if h then trace_in rows else (if i then emit_in rows else None))))))))) HasSources
    by_name true b c d e f g h i = list_bounded (ask_in rows) asks
    by_name false true c d e f g h i = test_bounded (first_of (codes "method") rows) (ask_in rows) asks
    by_name false false true d e f g h i = check_bounded (files_in rows) files
    by_name false false false true e f g h i = demo_bounded (option_and_then (number_in 1 12) (first_of (codes "nodes") rows)) workers
    by_name false false false false true f g h i = shard_bounded (ask_with (files_in rows) (span_in rows) (plain_sharing_in rows)) spans
    by_name false false false false false true g h i = merge_bounded (all_of (codes "file") rows)
    by_name false false false false false false true h i = upgrade_bounded (first_of (codes "fin") rows)
    by_name false false false false false false false true i = trace_bounded (first_of (codes "file") rows) (from_in (first_of (codes "from") rows)) (to_in (first_of (codes "to") rows)) workers
    by_name false false false false false false false false true = emit_bounded (ask_with (files_in rows) (range_in rows) (Some alone_sharing)) (ask_bounded (files_in rows) (range_in rows) (Some alone_sharing) files)
    by_name false false false false false false false false false = tt

command_bounded : (met : Option (Text × List Row)) → IfSome met (λ m. AreBounded m.1) → IfSome (command_in met) HasSources
command_bounded None h = tt
command_bounded (Some m) h = named_bounded m.0 m.1 h

korat_is_plain : list_all are_plain (built korat_app).subs ≡ true
unfolding clap_on_literals
korat_is_plain = refl

-- the words' command has sources
pub has_sources : (words : List Text) → IfSome (command_of words) HasSources
unfolding command_of
has_sources words = by_fault (fault_of korat_app words) refl
  where
    by_fault : (kinds : Kinds) → fault_of korat_app words ≡ kinds → IfSome (if is_empty kinds then command_in (subcommand_of korat_app words) else None) HasSources
    by_fault [] none = command_bounded (subcommand_of korat_app words) (words_bounded korat_app words korat_is_plain none)
    by_fault (k ∷ kinds) some = let left : is_empty (k ∷ kinds) ≡ false = grind arith in rw left tt
