use Rattle.std.proofs.Common.{◌≡◌, [], All}
use Rattle.mmkv_main.proofs.status_of.OwnLists.{own-1}
use Rattle.mmkv_main.proofs.status_of.Given as goal

abbrev pub invariant-loop : goal.invariant-loop
invariant-loop l =
    All (λ h. ((own-1.entry h.vtable).1.told h.value ≡ []) × ((own-1.entry h.vtable).1.changes_told h.value ≡ [])) l.discard.items
    × All (λ h. ((own-1.entry h.vtable).1.told h.value ≡ []) × ((own-1.entry h.vtable).1.changes_told h.value ≡ [])) l.recover.items
    × All (λ h. ((own-1.entry h.vtable).1.told h.value ≡ []) × ((own-1.entry h.vtable).1.changes_told h.value ≡ [])) l.leave.items
