use Rattle.std.proofs.Common.{◌≡◌, ◌∙◌, ℕ, List, ap}
use Rattle.kr_fin_upgrade.specs.Shown.{entries_shown, lines_shown}
use Rattle.kr_fin_upgrade.specs.Upgraded.{put_line}
use Rattle.kr_fin_upgrade.proofs.Maps.{added_new, added_old, found_shown, put_shown}
use Rattle.kr_fin_upgrade.proofs.lines.add_line.Goals as goal

pub returns-then-contains_key : goal.returns-then-contains_key
returns-then-contains_key c =
    let lines = c.args.lines.now in
    let name = c.args.name.now in
    added_old (lines_shown lines) name c.args.count c.contains_key.result (c.contains_key.ensures ∙ found_shown lines.entries name) c.if-contains_key.true

pub returns : goal.returns
returns c =
    let lines = c.args.lines.now in
    let name = c.args.name.now in
    let shown : lines_shown c.insert.new.self ≡ put_line (lines_shown lines) name c.args.count =
    ap entries_shown c.in_ok-insert.ensures.entries
    ∙ (put_shown lines.entries c.in_ok-name.name c.args.count ∙ ap (λ (t : List ℕ). put_line (lines_shown lines) t c.args.count) c.in_ok-name.ensures.ok) in
    added_new (lines_shown lines) (lines_shown c.insert.new.self) name c.args.count c.contains_key.result (c.contains_key.ensures ∙ found_shown lines.entries name) c.if-contains_key.false shown
