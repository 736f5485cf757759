-- Between crates: the calls of the collections by their names, and a new collection.
use Rattle.std.specs.Prelude.{ℕ, List, [], ◌∷◌, codes, bytes_eq, if◌then◌else◌}
use Rattle.kr_value.specs.declared.value.Value.{Value}
use Rattle.kr_value.specs.declared.object.Class.{Class}
use Rattle.kr_mean.specs.declared.kind.Stop.TheVariants.{Stuck}
use Rattle.kr_mean.specs.Steps.{Run, stop, make}
use Rattle.kr_code.specs.declared.collections.CollectionCall.{CollectionCall}
use Rattle.kr_code.specs.declared.collections.CollectionCall.TheVariants as calls

-- the call's name in Java; a collection has none without a name
abbrev pub name_of : CollectionCall → List ℕ
name_of calls.Unknown = []
name_of calls.Add = codes "add"
name_of calls.Contains = codes "contains"
name_of calls.Remove = codes "remove"
name_of calls.Size = codes "size"
name_of calls.IsEmpty = codes "isEmpty"
name_of calls.RemoveFirst = codes "removeFirst"

-- the call that a name is
abbrev pub call_named : List ℕ → CollectionCall
call_named n =
    if bytes_eq n (codes "add") then calls.Add else (
    if bytes_eq n (codes "contains") then calls.Contains else (
    if bytes_eq n (codes "remove") then calls.Remove else (
    if bytes_eq n (codes "size") then calls.Size else (
    if bytes_eq n (codes "isEmpty") then calls.IsEmpty else (
    if bytes_eq n (codes "removeFirst") then calls.RemoveFirst else calls.Unknown)))))

-- an empty collection; its constructor takes no arguments
abbrev pub new_collection : Class → List Value → Run Value
new_collection class [] = make class []
new_collection class (v ∷ vs) = stop Stuck
