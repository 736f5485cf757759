-- The problem of a document that breaks no rule is well formed, and it has few slots.
use Rattle.std.proofs.Common.{◌≡◌, ◌≤◌, ◌==◌, ◌++◌, nat_lt, List, [], length, map, Option, None, ap, sym, subst, ◌∙◌}
use Rattle.std.specs.Prelude.{MatchOption, codes}
use Rattle.std.proofs.lemmas.Bool.{ltb-false}
use Rattle.kr_ast.specs.Arena.{Arena, root}
use Rattle.kr_mean.specs.declared.mode.Mode.{Mode}
use Rattle.kr_mean.specs.Problem.{Problem, domain_at, slots}
use Rattle.kr_mean.specs.WellFormed.{IsWellFormed}
use Rattle.kr_fin.specs.declared.document.FinDoc.{FinDoc}
use Rattle.kr_space_meaning.specs.declared.refusal.SpaceRule.TheVariants.{EmptyDomain, TooMany}
use Rattle.kr_space_meaning.specs.Keys.{field_type, parameter_type}
use Rattle.kr_space_meaning.specs.Bounds.{Setting, problem_of, root_of, setting_of}
use Rattle.kr_space_meaning.specs.Faults.{S1, S2, S3_S5_S6, S4, S7, S8, S9, faults_in, numbers_of, numbers_of_lengths}
use Rattle.kr_fin.specs.Least.{IsLeast}
use Rattle.kr_space_meaning.specs.Meaning.{faults_of}
use Rattle.kr_space_meaning.specs.Order.{Fault, break_if, least, space_rank}
use Rattle.kr_space_meaning.proofs.Each.{unbroken}
use Rattle.kr_fin.proofs.Leasts.{least_of_all}
use Rattle.kr_space_meaning.proofs.WellFormed.{well_formed}
use Rattle.kr_base.proofs.ListLemmas.{append_is_nil}

none_broken : (faults : List Fault) → least faults ≡ None → faults ≡ []
none_broken faults e = subst (λ (o : Option Fault). MatchOption o (faults ≡ []) (IsLeast space_rank faults)) e (least_of_all space_rank faults)

no_faults : (trees here : List Arena) (document : FinDoc) (mode : Mode) → here ≡ trees → least (faults_of (map root here) document mode) ≡ None → faults_of (map root trees) document mode ≡ []
no_faults trees here document mode h e = none_broken (faults_of (map root trees) document mode) (ap (λ (ts : List Arena). least (faults_of (map root ts) document mode)) (sym h) ∙ e)

pub well_formed_here : (trees here : List Arena) (document : FinDoc) (mode : Mode) (p : Problem) → here ≡ trees → least (faults_of (map root here) document mode) ≡ None → p ≡ problem_of (map root trees) document mode → IsWellFormed p
well_formed_here trees here document mode p h e is = subst (λ (q : Problem). IsWellFormed q) (sym is) (well_formed (map root trees) document mode (no_faults trees here document mode h e))

few_slots : (problem : Problem) (setting : Setting) (mode : Mode) → faults_in problem setting mode ≡ [] → length (slots problem) ≤ 4096
unfolding faults_in
few_slots problem setting mode e =
    let fields = numbers_of problem setting (field_type setting.table) (codes "fields.") setting.document.fields in
    let params = numbers_of problem setting (parameter_type setting.table (root_of setting)) (codes "params.") setting.document.params in
    let lengths = numbers_of_lengths problem setting setting.document.arrays in
    let this = break_if ((domain_at problem problem.root).count == 0) EmptyDomain (codes "this") in
    let many = break_if (nat_lt 4096 (length (slots problem))) TooMany (codes "slots") in
    let last = S4 setting ++ (S7 setting ++ (S8 setting mode ++ S9 setting)) in
    let behind_names = (append_is_nil (S1 setting) (S2 setting mode ++ (S3_S5_S6 problem setting ++ last)) e).1 in
    let behind_domains = (append_is_nil (S2 setting mode) (S3_S5_S6 problem setting ++ last) behind_names).1 in
    let numbers = (append_is_nil (S3_S5_S6 problem setting) last behind_domains).0 in
    let behind_fields = (append_is_nil fields (params ++ (lengths ++ (this ++ many))) numbers).1 in
    let behind_params = (append_is_nil params (lengths ++ (this ++ many)) behind_fields).1 in
    let behind_lengths = (append_is_nil lengths (this ++ many) behind_params).1 in
    let behind_root = (append_is_nil this many behind_lengths).1 in
    ltb-false 4096 (length (slots problem)) (unbroken (nat_lt 4096 (length (slots problem))) TooMany (codes "slots") behind_root)

pub few_here : (trees here : List Arena) (document : FinDoc) (mode : Mode) (p : Problem) → here ≡ trees → least (faults_of (map root here) document mode) ≡ None → p ≡ problem_of (map root trees) document mode → length (slots p) ≤ 4096
few_here trees here document mode p h e is =
    subst (λ (q : Problem). length (slots q) ≤ 4096) (sym is)
    (few_slots (problem_of (map root trees) document mode) (setting_of (map root trees) document) mode (no_faults trees here document mode h e))
