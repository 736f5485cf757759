use Rattle.std.proofs.Common.{[], arith}
use Rattle.kr_classes_members.specs.Shown.{table_in}
use Rattle.kr_types.proofs.site.Site.here.Goals as goal

pub at-requires : goal.at-requires
at-requires c = let scoped = c.requires.scopes (table_in c.args.self.now.trees.now) [] in omega (arith, scoped.long)
