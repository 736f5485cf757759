-- The broken nodes of files, from the notes of their last nodes.
use Rattle.std.proofs.Common.{◌≡◌, refl, sym, ap, ◌∙◌, ℕ, zero, suc, ◌+◌, ◌-◌, ◌<◌, ◌⊎◌, inl, inr, List, [], ◌∷◌, ◌++◌, length, map, get_or, subst, arith}
use Rattle.std.specs.Prelude.{Option, Some, None, flat_map, option_map, slice_get}
use Rattle.std.proofs.lemmas.List.{length-append, length-map, take_all}
use Rattle.kr_ast.specs.Arena.{Arena, root, tree_in}
use Rattle.kr_base.proofs.Added.{flat_step}
use Rattle.kr_base.proofs.ListLemmas.{slice_get-push}
use Rattle.kr_ast.specs.Files.{file_at, no_file}
use Rattle.kr_classes_table.specs.Rules.{Fault, least, sooner}
use Rattle.kr_classes_table.specs.Constants.{values_of}
use Rattle.kr_types_meaning.specs.Scopes.{Scope}
use Rattle.kr_types_meaning.specs.Typing.{IsWellTyped, judged, outside, type_fault, type_in}
use Rattle.kr_types_meaning.specs.Noting as noting
use Rattle.kr_types_scopes.proofs.Noted.{least-append}
use Rattle.kr_classes_members.specs.Shown.{table_in}
use Rattle.kr_classes_names.specs.Types.{TypeList, Extends, type_at}
use Rattle.kr_types_judging.specs.declared.notes.Note.{Note}
use Rattle.kr_types_judging.specs.Shown.{known_shown, least_shown}
use Rattle.kr_types_expressions.specs.Notes.{typed_in}
use Rattle.kr_types_expressions.proofs.Notes.{notes_same, shown_at, within_kept}
use Rattle.kr_types.specs.declared.program.TypedFile.{TypedFile}
use Rattle.kr_types.specs.Programs.{AreTypedFiles, IsTypedFile, scope_there}
use Rattle.kr_types.proofs.Single.{none_broken}
use Rattle.kr_types.specs.Refusals.{faults_in, root_faults, tree_faults}

-- the note of the last node has the first broken node of the file
pub root_least : (files : List Arena) (l : TypeList) (f : ℕ) (t : TypedFile) (i : ℕ) (n : Note) → IsTypedFile files l f t → i + 1 ≡ length (file_at files f).entries → slice_get t.notes i ≡ Some n → least_shown n.least ≡ least (root_faults files f)
root_least files l f t i n h e is =
    let a = file_at files f in
    let at : i ≡ length a.entries - 1 = omega (arith, e) in
    let scoped = h.scopes (table_in files) (values_of (table_in files)) in
    sym (ap (λ (x : noting.Note). x.least) (shown_at l t.notes h.within i n is))
    ∙ ap (λ (x : noting.Note). x.least) (h.judged i (omega (arith, e)))
    ∙ ap (λ (s : Scope). least (judged s (tree_in a i)).faults) (scoped.root i e)
    ∙ ap (λ (k : ℕ). least (judged (outside (table_in files)) (tree_in a k)).faults) at

root_at : (files : List Arena) (f : ℕ) → f < length files → get_or (map root files) f (root no_file) ≡ root (file_at files f)
root_at [] f l = absurd (omega (arith, l))
root_at (a ∷ files) zero l = refl
root_at (a ∷ files) (suc f) l = root_at files f (omega (arith, l))

-- one file more
pub faults_more : (files : List Arena) (f : ℕ) (first here new : Option Fault) → f < length files → first ≡ least (faults_in files f) → here ≡ least (root_faults files f) → new ≡ sooner first here → new ≡ least (faults_in files (f + 1))
faults_more files f first here new l a b e =
    e ∙ ap (λ x. sooner x here) a ∙ ap (sooner (least (faults_in files f))) b
    ∙ sym (least-append (faults_in files f) (root_faults files f))
    ∙ ap least (flat_step (tree_faults files) [] (faults_in files f) (root_faults files f) (map root files) f (root no_file) (omega (arith, l, length-map files root)) refl (ap (tree_faults files) (sym (root_at files f l))))

pub all_faults : (files : List Arena) → type_fault (map root files) ≡ least (faults_in files (length files))
unfolding type_fault
all_faults files = ap (λ ts. least (flat_map (tree_faults files) ts)) (sym (take_all (length files) (map root files) (omega (arith, length-map files root))))

-- while types are added
pub typed_kept : (files : List Arena) (a b : TypeList) (f : ℕ) (t : TypedFile) → Extends a b → IsTypedFile files a f t → IsTypedFile files b f t
typed_kept files a b f t x h = record {
  scopes = h.scopes;
  resolved = h.resolved;
  meant = h.meant;
  long = h.long;
  within = within_kept a b t.notes x h.within;
  judged = λ i l. ap (λ (ns : List noting.Note). noting.note_at ns i) (notes_same a b t.notes x h.within) ∙ h.judged i l;
}

-- one file more
pub file_more : (files : List Arena) (a b : TypeList) (n : ℕ) (ts : List TypedFile) (t : TypedFile) → Extends a b → AreTypedFiles files a n ts → IsTypedFile files b n t → AreTypedFiles files b (n + 1) (ts ++ t ∷ [])
file_more files a b n ts t x h made = record {
  count = omega (arith, h.count, length-append ts (t ∷ []));
  each = λ f u is. either f u (slice_get-push ts t f u is);
}
  where
    either : (f : ℕ) (u : TypedFile) → (slice_get ts f ≡ Some u) ⊎ ((f ≡ length ts) × (t ≡ u)) → IsTypedFile files b f u
    either f u (inl is) = typed_kept files a b f u x (h.each f u is)
    either f u (inr at) = subst (λ (v : TypedFile). IsTypedFile files b f v) at.1 (subst (λ (k : ℕ). IsTypedFile files b k t) (sym (at.0 ∙ h.count)) made)

-- where no node is the first broken one there is none
pub well_typed : (files : List Arena) → type_fault (map root files) ≡ None → IsWellTyped (map root files)
unfolding type_fault
well_typed files e = none_broken _ e

-- the type that the note of a node has is that of its judgement
pub type_there : (files : List Arena) (l : TypeList) (f : ℕ) (t : TypedFile) (i : ℕ) (n : Note) (found : Option ℕ) → IsTypedFile files l f t → i < length (file_at files f).entries → slice_get t.notes i ≡ Some n
    → option_map (type_at l) found ≡ type_in (known_shown l (typed_in l t.notes) n.known) → option_map (type_at l) found ≡ type_in (judged (scope_there files f t i) (tree_in (file_at files f) i)).typed
type_there files l f t i n found h lt is e = e ∙ ap (λ (x : noting.Note). type_in x.typed) (sym (shown_at l t.notes h.within i n is) ∙ h.judged i lt)
