use Rattle.kr_pool.proofs.Handed.{rest_logged}
use Rattle.kr_pool.proofs.shares.hand_last.Goals as goal

pub returns-in-Ok-clause-shares : goal.returns-in-Ok-clause-shares
returns-in-Ok-clause-shares g c = λ es d workers lists whole start from t.
    rest_logged g.T.Taker.takes es workers c.args.logged.log.items start from c.hand_listing.new.taker c.hand_listing.new.out c.in-Ok.end whole (c.in-Ok.ensures es d lists start from t)
