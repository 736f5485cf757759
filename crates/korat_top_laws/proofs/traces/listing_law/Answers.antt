use Rattle.korat_top_laws.proofs.Listings.{logged}
use Rattle.korat_top_laws.proofs.traces.listing_law.Goals as goal

pub returns : goal.returns
returns g c = logged
