use Rattle.std.proofs.Common.{◌≡◌, sym, ap, subst, ◌∙◌, ◌<◌, length, map, get_or, arith}
use Rattle.std.specs.Prelude.{Some, None}
use Rattle.std.proofs.lemmas.Option.{slice_get-get_or}
use Rattle.kr_types_meaning.specs.Rules as rules
use Rattle.kr_types_meaning.specs.Typing.{joined}
use Rattle.std.proofs.lemmas.Grind.{common_steps}
use Rattle.kr_classes_names.specs.Types.{count, type_at}
use Rattle.kr_types_judging.specs.declared.known.Typed.TheVariants as typed
use Rattle.kr_types_judging.specs.declared.known.Known.{Known}
use Rattle.kr_types_judging.specs.declared.known.Known.TheVariants as known
use Rattle.kr_types_judging.specs.declared.notes.Note.{Note}
use Rattle.kr_types_judging.specs.Shown.{IsKnownWithin, known_shown}
use Rattle.kr_types_expressions.specs.Notes.{typed_in, IsRestBelow}
use Rattle.kr_types_expressions.specs.Parts.{values_in}
use Rattle.kr_types_expressions.proofs.Gathering.{before, before_end, before_none, nothing_left, one_more, rest_below, rest_shown, rest_within}
use Rattle.kr_types_expressions.proofs.lists.value_types.Goals as goal
use Rattle.kr_types_expressions.proofs.Notes.{below_weaker}

pub loop-at-preserved : goal.loop-at-preserved
loop-at-preserved c =
    let l = c.args.types.now in
    let ns = c.args.notes.now in
    let w = c.requires.notes in
    let first = c.in-More.first in
    let rest = c.in-More.rest in
    let d : Note = record { known = known.One typed.Untyped; least = None } in
    let inside : rest < length ns = subst (λ (k : Known). IsRestBelow (length ns) k) c.in-More.is c.loop-at.invariant.below in
    let there = slice_get-get_or ns rest d inside in
    let both : Some (get_or ns rest d) ≡ Some c.at-at.result = sym there ∙ c.at-at.ensures in
    let is : get_or ns rest d ≡ c.at-at.result = cc in
    record {
      within = let fits : first < count l = subst (λ (k : Known). IsKnownWithin l k) c.in-More.is c.loop-at.invariant.known in let so_far = c.loop-at.invariant.within in grind (arith, common_steps);
      known = subst (λ (n : Note). IsKnownWithin l n.known) is (rest_within l ns w first rest d inside);
      below = subst (λ (n : Note). IsRestBelow (length ns) n.known) is (below_weaker rest (length ns) (get_or ns rest d).known inside (rest_below l ns w first rest d inside));
      shown = one_more l ns c.loop-at.found.items c.push.new.self.items first rest c.loop-at.at c.at-at.result.known (known_shown l (typed_in l ns) c.args.list) c.in-More.is c.in_ok-push.ensures.items (subst (λ (n : Note). known_shown l (typed_in l ns) (known.More first rest) ≡ joined (rules.Value (type_at l first)) (known_shown l (typed_in l ns) n.known)) is (rest_shown l ns w first rest d inside)) c.loop-at.invariant.shown;
    }

pub returns-in-Absent : goal.returns-in-Absent
returns-in-Absent c =
    let l = c.args.types.now in
    let look = typed_in l c.args.notes.now in
    let ts = map (type_at l) c.loop-at.found.items in
    record {
      within = c.loop-at.invariant.within;
      shown = sym (ap values_in (sym c.loop-at.invariant.shown ∙ ap (λ (k : Known). before ts (known_shown l look k)) c.in-Absent.is ∙ before_end ts));
    }

pub returns-in_default-at : goal.returns-in_default-at
returns-in_default-at c =
    let l = c.args.types.now in
    let look = typed_in l c.args.notes.now in
    let ts = map (type_at l) c.loop-at.found.items in
    record {
      within = tt;
      shown = sym (ap values_in (sym c.loop-at.invariant.shown) ∙ before_none ts (known_shown l look c.loop-at.at) (nothing_left l look c.loop-at.at c.in_default.not-More c.in_default-at.not-Absent));
    }
