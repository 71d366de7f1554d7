-- No page of the driver has a word of a kernel object.
use Rattle.std.proofs.Common.{◌≡◌, ℕ, ◌<◌, Bool, false, List, ◌||◌, length, slice_index_or, arith, refl, sym}
use Rattle.std.proofs.lemmas.List.FromFn.{fill_by_all}
use Rattle.domain_pages.specs.Frames.{has_some, with_own}
use Rattle.nook_data.specs.Layout.{object_start}

has_none : (object page : ℕ) → page < 115 → has_some (object_start object) 64 page ≡ false
has_none object page low = grind arith

pub own_of_object : (object : ℕ) (own : List Bool) → length own ≡ 115 → with_own (object_start object) 64 own ≡ own
unfolding with_own
own_of_object object own size =
    sym (fill_by_all (λ page. has_some (object_start object) 64 page || slice_index_or own page false) own 115 false size (λ page low.
    rw (has_none object page low) refl))
