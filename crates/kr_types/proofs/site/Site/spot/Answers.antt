use Rattle.std.proofs.Common.{refl}
use Rattle.kr_types.proofs.Meant.{spot_is}
use Rattle.kr_types.proofs.site.Site.spot.Goals as goal

pub returns : goal.returns
returns c = spot_is c.args.self.now c.args.at c.args.at c.tree.result.now c.entry-entry.result c.tree.ensures refl c.requires.at c.entry-entry.ensures.here c.entry-entry.ensures.tree c.entry-entry.ensures.parts c.entry-entry.ensures.names
