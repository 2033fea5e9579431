-- A loop that looks for a number in a list from the front: membership in what is left at place i, by what the element there is.
use mathlib.Core.Path.{◌≡◌, ◌∙◌, ap}
use mathlib.Core.Logic.{◌≢◌}
use mathlib.Core.Bool.{true, false}
use mathlib.Core.List.{List}
use Prim.Native.Nat.{ℕ, ◌+◌, ◌≤◌, ◌<◌}
use lib.ListN.{length, get_or, drop, drop_of_length-le}
use Rattle.lists.specs.Lists.{member}
use Rattle.lists.proofs.Members.{member_head, member_tail, member_none}
use Rattle.lists.proofs.Scans.{drop_next}

module _ (x : ℕ) (s : List ℕ) (i : ℕ) where
  pub search_found : i < length s → x ≡ get_or s i 0 → member x (drop i s) ≡ true
  search_found h e = ap (member x) (drop_next s i 0 h) ∙ member_head x (get_or s i 0) (drop (i + 1) s) e

  pub search_pass : i < length s → x ≢ get_or s i 0 → member x (drop i s) ≡ member x (drop (i + 1) s)
  search_pass h e = ap (member x) (drop_next s i 0 h) ∙ member_tail x (get_or s i 0) (drop (i + 1) s) e

  pub search_end : length s ≤ i → member x (drop i s) ≡ false
  search_end h = ap (member x) (drop_of_length-le s h) ∙ member_none x
