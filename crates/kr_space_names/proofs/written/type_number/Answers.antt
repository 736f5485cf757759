use Rattle.std.proofs.Common.{◌≡◌, ◌+◌, ◌-◌, ◌<◌, ◌≤◌, ◌++◌, ◌∷◌, [], ℕ, suc, List, Option, ap, sym, subst, ◌∙◌, rules, arith, length}
use Rattle.std.specs.Prelude.{map}
use Rattle.std.proofs.lemmas.List.{length-append}
use Rattle.std.proofs.lemmas.Result.{IfOk-weaker}
use Rattle.kr_ast.specs.Arena.{Arena, root}
use Rattle.kr_classes_table.specs.Types.{JavaType}
use Rattle.kr_classes_table.specs.Table.{Heading, headings_of}
use Rattle.kr_classes_names.specs.Shown.{AreHeads}
use Rattle.kr_space_meaning.specs.Names.{Word, type_of, type_within, word_type, written}
use Rattle.kr_space_names.specs.declared.wrapping.Wrapping.{Wrapping}
use Rattle.kr_space_names.specs.Texts.{Stands, peeled, wrapped}
use Rattle.kr_space_names.proofs.Wrapped.{wrapped_one, one_layer, nonempty}
use Rattle.kr_space_names.proofs.written.type_number.Goals as goal

-- one layer more
on : (hs : List Heading) (n k : ℕ) (text rest inner : List ℕ) (ws new : List Wrapping) (w : Wrapping) → type_within n hs text ≡ wrapped ws (type_within k hs rest) → (m : ℕ) → k ≡ suc m → written rest ≡ peeled w inner → new ≡ ws ++ w ∷ [] → type_within n hs text ≡ wrapped new (type_within m hs inner)
on hs n k text rest inner ws new w e m f r i =
    e ∙ (ap (λ (x : ℕ). wrapped ws (type_within x hs rest)) f
    ∙ (ap (wrapped ws) (ap (type_of hs (type_within m hs)) r ∙ one_layer hs (type_within m hs) w inner)
    ∙ (sym (wrapped_one ws w (type_within m hs inner)) ∙ ap (λ (xs : List Wrapping). wrapped xs (type_within m hs inner)) (sym i))))

-- at a word
end : (hs : List Heading) (n k : ℕ) (text rest : List ℕ) (ws : List Wrapping) → type_within n hs text ≡ wrapped ws (type_within k hs rest) → (m : ℕ) → k ≡ suc m → written rest ≡ Word rest → type_within n hs text ≡ wrapped ws (word_type hs rest)
end hs n k text rest ws e m f r =
    e ∙ (ap (λ (x : ℕ). wrapped ws (type_within x hs rest)) f ∙ ap (wrapped ws) (ap (type_of hs (type_within m hs)) r))

pub loop-wrapping-preserved : goal.loop-wrapping-preserved
loop-wrapping-preserved c =
    let inv = c.loop-wrapping.invariant in
    let w = c.in-Some.wrapping in
    let n = length c.args.text.now in
    let ws = c.loop-wrapping.wrappings.items in
    let new = c.push.new.self.items in
    let r : written c.loop-wrapping.rest.now ≡ peeled w c.in-Some.inner.now = c.in-Some.ensures.written in
    let s : length c.in-Some.inner.now + 2 ≤ length c.loop-wrapping.rest.now = c.in-Some.ensures.shorter in
    let items : new ≡ ws ++ w ∷ [] = search rules in
    let long : length new ≡ length ws + 1 = ap (λ (xs : List Wrapping). length xs) items ∙ length-append ws (w ∷ []) in
    let fuel : n - length ws ≡ suc (n - length new) = omega (arith, long, inv.room, s) in
    record {
      is = λ hs. on hs n (n - length ws) c.args.text.now c.loop-wrapping.rest.now c.in-Some.inner.now ws new w (inv.is hs) (n - length new) fuel r items;
      room = omega (arith, long, inv.room, s);
    }

pub returns-clause-stands : goal.returns-clause-stands
returns-clause-stands c =
    let inv = c.loop-wrapping.invariant in
    let n = length c.args.text.now in
    let ws = c.loop-wrapping.wrappings.items in
    let rest = c.loop-wrapping.rest.now in
    let some : 0 < n = nonempty n c.is_empty.result c.is_empty.ensures c.if-is_empty.false in
    let fuel : n - length ws ≡ suc (n - length ws - 1) = omega (arith, inv.room, some) in
    let r : written rest ≡ Word rest = c.in_default.ensures.written in
    let P : Option ℕ → Type 0 = λ next. (t : Option JavaType) → Stands c.word.new.types c.in_ok-found.found t → Stands c.wrap_all.new.types next (wrapped ws t) in
    let Q : Option ℕ → Type 0 = λ found. (files : List Arena) → AreHeads files c.args.heads.now → Stands c.wrap_all.new.types found (type_within n (headings_of (map root files)) c.args.text.now) in
    IfOk-weaker c.wrap_all.result P Q
    (λ next k files h.
    let hs = headings_of (map root files) in
    subst (λ (t : Option JavaType). Stands c.wrap_all.new.types next t)
    (sym (end hs n (n - length ws) c.args.text.now rest ws (inv.is hs) (n - length ws - 1) fuel r))
    (k (word_type hs rest) (c.in_ok-found.ensures.stands files h)))
    c.wrap_all.ensures.stands
