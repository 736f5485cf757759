use Rattle.std.proofs.Common.{◌≡◌, ◌<◌, ◌≤◌, ◌-◌, ◌^◌, ◌∙◌, List, ap, sym, subst, arith, None}
use Rattle.std.specs.Prelude.{is_some}
use Rattle.std.specs.List.{find}
use Rattle.kr_core.specs.declared.segment.Segment.{Segment}
use Rattle.kr_core.specs.Kept.{IsKept}
use Rattle.kr_board.specs.Held.{Held}
use Rattle.kr_board.specs.Taking.{theft_of, first_victim}
use Rattle.kr_board.proofs.Grants.{theft_fits, no_victim_left, no_victim_there}
use Rattle.kr_board.proofs.Taking.{look_taken, theft_taken}
use Rattle.kr_board.proofs.board.Board.take_rest.Goals as goal

pub returns-then-next-clause-event : goal.returns-then-next-clause-event
returns-then-next-clause-event g c =
    let now = c.args.self.now in
    let next : c.next.result ≡ now.core.next = c.next.ensures ∙ ap (λ (o : Held g.row.R.Denot). o.core.next) c.self.view_is in
    let last : 2 ^ 64 - 1 ≤ now.core.next = omega (arith, next, c.if-next.true) in
    (look_taken c.args.seat now c.wait.result c.wait.new.self c.requires (no_victim_left now.core last) c.wait.ensures.added c.wait.ensures.later).event

pub returns-then-next-clause-later : goal.returns-then-next-clause-later
returns-then-next-clause-later g c =
    let now = c.args.self.now in
    let next : c.next.result ≡ now.core.next = c.next.ensures ∙ ap (λ (o : Held g.row.R.Denot). o.core.next) c.self.view_is in
    let last : 2 ^ 64 - 1 ≤ now.core.next = omega (arith, next, c.if-next.true) in
    (look_taken c.args.seat now c.wait.result c.wait.new.self c.requires (no_victim_left now.core last) c.wait.ensures.added c.wait.ensures.later).later

pub returns-then-next-clause-finished : goal.returns-then-next-clause-finished
returns-then-next-clause-finished g c =
    let now = c.args.self.now in
    let next : c.next.result ≡ now.core.next = c.next.ensures ∙ ap (λ (o : Held g.row.R.Denot). o.core.next) c.self.view_is in
    let last : 2 ^ 64 - 1 ≤ now.core.next = omega (arith, next, c.if-next.true) in
    (look_taken c.args.seat now c.wait.result c.wait.new.self c.requires (no_victim_left now.core last) c.wait.ensures.added c.wait.ensures.later).finished

pub returns-then-next-clause-stays : goal.returns-then-next-clause-stays
returns-then-next-clause-stays g c =
    let now = c.args.self.now in
    let next : c.next.result ≡ now.core.next = c.next.ensures ∙ ap (λ (o : Held g.row.R.Denot). o.core.next) c.self.view_is in
    let last : 2 ^ 64 - 1 ≤ now.core.next = omega (arith, next, c.if-next.true) in
    (look_taken c.args.seat now c.wait.result c.wait.new.self c.requires (no_victim_left now.core last) c.wait.ensures.added c.wait.ensures.later).stays

pub returns-in-None-clause-event : goal.returns-in-None-clause-event
returns-in-None-clause-event g c =
    let now = c.args.self.now in
    let seen : c.segments.result.now ≡ now.core.segments = c.segments.ensures ∙ ap (λ (o : Held g.row.R.Denot). o.core.segments) c.self.view_is in
    let h = rw c.in-None.is at c.in_ok-first_victim.ensures.none in
    let none : first_victim now.core ≡ None = no_victim_there now.core (ap (λ (ss : List Segment). find (λ t. is_some (theft_of t)) ss) (sym seen) ∙ h) in
    (look_taken c.args.seat now c.wait-in-None.result c.wait-in-None.new.self c.requires none c.wait-in-None.ensures.added c.wait-in-None.ensures.later).event

pub returns-in-None-clause-later : goal.returns-in-None-clause-later
returns-in-None-clause-later g c =
    let now = c.args.self.now in
    let seen : c.segments.result.now ≡ now.core.segments = c.segments.ensures ∙ ap (λ (o : Held g.row.R.Denot). o.core.segments) c.self.view_is in
    let h = rw c.in-None.is at c.in_ok-first_victim.ensures.none in
    let none : first_victim now.core ≡ None = no_victim_there now.core (ap (λ (ss : List Segment). find (λ t. is_some (theft_of t)) ss) (sym seen) ∙ h) in
    (look_taken c.args.seat now c.wait-in-None.result c.wait-in-None.new.self c.requires none c.wait-in-None.ensures.added c.wait-in-None.ensures.later).later

pub returns-in-None-clause-finished : goal.returns-in-None-clause-finished
returns-in-None-clause-finished g c =
    let now = c.args.self.now in
    let seen : c.segments.result.now ≡ now.core.segments = c.segments.ensures ∙ ap (λ (o : Held g.row.R.Denot). o.core.segments) c.self.view_is in
    let h = rw c.in-None.is at c.in_ok-first_victim.ensures.none in
    let none : first_victim now.core ≡ None = no_victim_there now.core (ap (λ (ss : List Segment). find (λ t. is_some (theft_of t)) ss) (sym seen) ∙ h) in
    (look_taken c.args.seat now c.wait-in-None.result c.wait-in-None.new.self c.requires none c.wait-in-None.ensures.added c.wait-in-None.ensures.later).finished

pub returns-in-None-clause-stays : goal.returns-in-None-clause-stays
returns-in-None-clause-stays g c =
    let now = c.args.self.now in
    let seen : c.segments.result.now ≡ now.core.segments = c.segments.ensures ∙ ap (λ (o : Held g.row.R.Denot). o.core.segments) c.self.view_is in
    let h = rw c.in-None.is at c.in_ok-first_victim.ensures.none in
    let none : first_victim now.core ≡ None = no_victim_there now.core (ap (λ (ss : List Segment). find (λ t. is_some (theft_of t)) ss) (sym seen) ∙ h) in
    (look_taken c.args.seat now c.wait-in-None.result c.wait-in-None.new.self c.requires none c.wait-in-None.ensures.added c.wait-in-None.ensures.later).stays

pub steal-requires : goal.steal-requires
steal-requires g c =
    let now = c.args.self.now in
    let next : c.next.result ≡ now.core.next = c.next.ensures ∙ ap (λ (o : Held g.row.R.Denot). o.core.next) c.self.view_is in
    let room : now.core.next < 2 ^ 64 - 1 = omega (arith, next, c.if-next.false, c.next.type_inv) in
    let seen : c.segments.result.now ≡ now.core.segments = c.segments.ensures ∙ ap (λ (o : Held g.row.R.Denot). o.core.segments) c.self.view_is in
    let h = rw c.in-Some.is at c.in_ok-first_victim.ensures.some in
    let kept : IsKept now.core = subst (λ (o : Held g.row.R.Denot). IsKept o.core) c.self.view_is c.self.invariant.0.core_kept in
    theft_fits now.core c.args.seat c.in-Some.victim.now c.in-Some.cut kept (ap (λ (ss : List Segment). find (λ t. is_some (theft_of t)) ss) (sym seen) ∙ h.0) h.1 room

pub returns-in-Some-clause-event : goal.returns-in-Some-clause-event
returns-in-Some-clause-event g c =
    let now = c.args.self.now in
    let next : c.next.result ≡ now.core.next = c.next.ensures ∙ ap (λ (o : Held g.row.R.Denot). o.core.next) c.self.view_is in
    let room : now.core.next < 2 ^ 64 - 1 = omega (arith, next, c.if-next.false, c.next.type_inv) in
    let seen : c.segments.result.now ≡ now.core.segments = c.segments.ensures ∙ ap (λ (o : Held g.row.R.Denot). o.core.segments) c.self.view_is in
    let h = rw c.in-Some.is at c.in_ok-first_victim.ensures.some in
    (theft_taken c.args.seat now c.steal.result c.steal.new.self c.in-Some.victim.now c.in-Some.cut c.requires room (ap (λ (ss : List Segment). find (λ t. is_some (theft_of t)) ss) (sym seen) ∙ h.0) h.1 c.steal.ensures.added).event

pub returns-in-Some-clause-later : goal.returns-in-Some-clause-later
returns-in-Some-clause-later g c =
    let now = c.args.self.now in
    let next : c.next.result ≡ now.core.next = c.next.ensures ∙ ap (λ (o : Held g.row.R.Denot). o.core.next) c.self.view_is in
    let room : now.core.next < 2 ^ 64 - 1 = omega (arith, next, c.if-next.false, c.next.type_inv) in
    let seen : c.segments.result.now ≡ now.core.segments = c.segments.ensures ∙ ap (λ (o : Held g.row.R.Denot). o.core.segments) c.self.view_is in
    let h = rw c.in-Some.is at c.in_ok-first_victim.ensures.some in
    (theft_taken c.args.seat now c.steal.result c.steal.new.self c.in-Some.victim.now c.in-Some.cut c.requires room (ap (λ (ss : List Segment). find (λ t. is_some (theft_of t)) ss) (sym seen) ∙ h.0) h.1 c.steal.ensures.added).later

pub returns-in-Some-clause-finished : goal.returns-in-Some-clause-finished
returns-in-Some-clause-finished g c =
    let now = c.args.self.now in
    let next : c.next.result ≡ now.core.next = c.next.ensures ∙ ap (λ (o : Held g.row.R.Denot). o.core.next) c.self.view_is in
    let room : now.core.next < 2 ^ 64 - 1 = omega (arith, next, c.if-next.false, c.next.type_inv) in
    let seen : c.segments.result.now ≡ now.core.segments = c.segments.ensures ∙ ap (λ (o : Held g.row.R.Denot). o.core.segments) c.self.view_is in
    let h = rw c.in-Some.is at c.in_ok-first_victim.ensures.some in
    (theft_taken c.args.seat now c.steal.result c.steal.new.self c.in-Some.victim.now c.in-Some.cut c.requires room (ap (λ (ss : List Segment). find (λ t. is_some (theft_of t)) ss) (sym seen) ∙ h.0) h.1 c.steal.ensures.added).finished

pub returns-in-Some-clause-stays : goal.returns-in-Some-clause-stays
returns-in-Some-clause-stays g c =
    let now = c.args.self.now in
    let next : c.next.result ≡ now.core.next = c.next.ensures ∙ ap (λ (o : Held g.row.R.Denot). o.core.next) c.self.view_is in
    let room : now.core.next < 2 ^ 64 - 1 = omega (arith, next, c.if-next.false, c.next.type_inv) in
    let seen : c.segments.result.now ≡ now.core.segments = c.segments.ensures ∙ ap (λ (o : Held g.row.R.Denot). o.core.segments) c.self.view_is in
    let h = rw c.in-Some.is at c.in_ok-first_victim.ensures.some in
    (theft_taken c.args.seat now c.steal.result c.steal.new.self c.in-Some.victim.now c.in-Some.cut c.requires room (ap (λ (ss : List Segment). find (λ t. is_some (theft_of t)) ss) (sym seen) ∙ h.0) h.1 c.steal.ensures.added).stays
