use Rattle.kr_coll.proofs.Found.{found}
use Rattle.kr_coll.proofs.search.position_of.Goals as goal

-- src/search.rt:16:1
pub returns : goal.returns
returns c = rw c.first_position.ensures (found c.args.members.now c.args.member)
