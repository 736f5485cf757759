use Rattle.std.proofs.Common.{◌≡◌, ◌+◌, ℕ, [], ◌∷◌, List, ap, ◌∙◌, arith, length, rules}
use Rattle.std.proofs.lemmas.List.{length-append}
use Rattle.kr_space_layout.specs.declared.entry.Entry.{Entry}
use Rattle.kr_space_layout.specs.Tables.{parameter_entries, starts_with, this_entry}
use Rattle.kr_space_layout.proofs.Slots.{parameters_long}
use Rattle.kr_space_layout.proofs.tables.tables_of.Goals as goal

pub returns-clause-starts : goal.returns-clause-starts
returns-clause-starts c =
    let first : c.push.new.self.items ≡ this_entry ∷ [] = search rules in
    let n : length c.add_parameters.new.entries.items ≡ length c.args.parameters.now + 1 =
    omega (arith, ap (λ (xs : List Entry). length xs) c.in_ok-add_parameters.ensures, length-append c.push.new.self.items (parameter_entries 0 c.args.parameters.now), ap (λ (xs : List Entry). length xs) first, parameters_long 0 c.args.parameters.now) in
    let e : c.add_classes.new.starts.items ≡ starts_with (length c.add_parameters.new.entries.items) c.args.blocks.now c.args.classes.now = search rules in
    e ∙ ap (λ (m : ℕ). starts_with m c.args.blocks.now c.args.classes.now) n
