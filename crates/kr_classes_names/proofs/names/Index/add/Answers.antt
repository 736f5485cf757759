use Rattle.std.proofs.Common.{◌≡◌, sym, ap, ◌∙◌, subst, ◌+◌, ◌++◌, ◌∷◌, [], List, ℕ, length, map, bytes_eq, true, if◌then◌else◌, zero-add, Vec, Global}
use Rattle.std.specs.Prelude.{Some, None, is_some}
use Rattle.std.specs.List.{position_from}
use Rattle.std.proofs.lemmas.List.{map-append}
use Rattle.indexmap.proofs.CallerLemmas.{insert_entry-new}
use Rattle.kr_classes_table.specs.Constants.{or_else}
use Rattle.kr_classes_names.specs.Listed.{place_of}
use Rattle.kr_classes_names.proofs.Indexes.{looked, position_push, place_push, present, same_name, none_from}
use Rattle.kr_classes_names.proofs.names.Index.add.Goals as goal

pub returns-then-is_some : goal.returns-then-is_some
returns-then-is_some c = λ names h e n.
    let name = c.args.name.now in
    let some : is_some (place_of name c.args.self.now) ≡ true = ap is_some (sym c.find.ensures) ∙ sym c.is_some.ensures ∙ c.if-is_some.true in
    h n
    ∙ present (position_from (bytes_eq n) 0 names) (bytes_eq n name) (0 + length names)
    (λ b. subst (λ (m : List ℕ). is_some (position_from (bytes_eq m) 0 names) ≡ true) (sym (same_name n name b)) (ap is_some (sym (h name)) ∙ some))
    ∙ sym (position_push (bytes_eq n) 0 names name)

pub returns : goal.returns
returns c = λ names h e n.
    let name = c.args.name.now in
    let copy = c.extend_from_slice.new.self in
    let at = c.args.at in
    let es = c.self.inside.first.entries in
    let shown : Vec ℕ Global × ℕ → List ℕ × ℕ = λ p. (p.0.items, p.1) in
    let g : map shown es ≡ c.args.self.now = c.self.view_is in
    let same : copy.items ≡ name = c.in_ok-extend_from_slice.ensures.items ∙ ap (λ xs. xs ++ name) c.new-copy.ensures.items in
    let absent : place_of name c.args.self.now ≡ None = none_from _ (ap is_some (sym c.find.ensures) ∙ sym c.is_some.ensures ∙ c.if-is_some.false) in
    let entries : c.insert.new.self.entries ≡ es ++ (copy, at) ∷ [] =
    c.in_ok-insert.ensures.entries
    ∙ insert_entry-new _ c.self.inside.first copy at
    (looked (λ (k : Vec ℕ Global). k.items) copy.items es ∙ ap (λ q. place_of q (map shown es)) same ∙ ap (place_of name) g ∙ absent) in
    let old = position_from (bytes_eq n) 0 names in
    ap (λ ds. place_of n (map shown ds)) entries
    ∙ ap (place_of n) (map-append shown es ((copy, at) ∷ []))
    ∙ place_push n (map shown es) (copy.items, at)
    ∙ ap (λ o. or_else o (if bytes_eq n copy.items then Some at else None)) (ap (place_of n) g ∙ h n)
    ∙ ap (λ q. or_else old (if bytes_eq n q then Some at else None)) same
    ∙ ap (λ k. or_else old (if bytes_eq n name then Some k else None)) (e ∙ sym (zero-add (length names)))
    ∙ sym (position_push (bytes_eq n) 0 names name)
