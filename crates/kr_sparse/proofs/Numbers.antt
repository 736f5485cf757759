-- Indices in pages.
use Rattle.std.proofs.Common.{◌≡◌, ℕ, ◌+◌, ◌*◌, ◌/◌, ◌%◌, ◌<◌, ◌≤◌, arith}
use Rattle.kr_sparse.specs.Pages.{page_len}

pub page_of : (k : ℕ) → k ≡ (k / page_len) * page_len + k % page_len
unfolding page_len
page_of k = omega arith

pub within_page : (k : ℕ) → k % page_len < page_len
unfolding page_len
within_page k = omega arith

-- an index after so many full pages
pub after_pages : (pages k : ℕ) → pages ≤ k / page_len → pages * page_len ≤ k
unfolding page_len
after_pages pages k le = omega arith

-- an index of a full page
pub before_end : (q r pages : ℕ) → q < pages → r < page_len → q * page_len + r < pages * page_len
unfolding page_len
before_end q r pages lt within = omega arith
