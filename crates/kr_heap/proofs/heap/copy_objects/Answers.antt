use Rattle.std.proofs.Common.{◌≡◌, ◌++◌, ◌-◌, rules, refl, length, map, take, drop, sym, ap, ◌∙◌}
use Rattle.kr_heap.specs.Shown.{shown}
use Rattle.kr_heap.proofs.Copies.{first_and_rest, to_the_end}
use Rattle.kr_heap.proofs.heap.copy_objects.Goals as goal

pub returns : goal.returns
returns c =
    let front = map shown c.copy_into.new.objects.items in
    let all = c.args.others.now in
    let count : c.len.result ≡ length c.copy_into.new.objects.items = search rules in
    let more = c.in_ok-append_copies.ensures ∙ ap (λ ys. front ++ map shown ys) (to_the_end c.len.result (length all - c.len.result) all refl ∙ ap (λ n. drop n all) count) in
    first_and_rest shown all c.copy_into.new.objects.items c.append_copies.new.objects.items (length c.copy_into.new.objects.items) (c.in_ok-copy_into.ensures.copied ∙ ap (λ n. take n (map shown all)) (sym c.in_ok-copy_into.ensures.long)) more
