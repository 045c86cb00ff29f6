-- A `&` to a deed reaches nothing. Assumes `Logic`.
use denote.RattleType.{RattleType}
use denote.RawPtr.{RawPtr}
use denote.Param.Laws.{Laws}
use denote.Param.Shared.{copy_shared}
use denote.SharingLaws.{nothing_shr_laws}
use denote.Struct.Laws.{field_copy}
use denote.Struct.Lending.{of_Lends, Lends-nothing}
use Rattle.std.specs.declared.alloc.Allocator.{Ghosts}
use Rattle.std.specs.contracts.marker.PhantomData as marker
use Rattle.slot_arena.specs.contracts.block.Deed as C
use Rattle.slot_arena.proofs.block.Deed.TheLaw.Statement.{statement}

pub shares : (S A : RattleType) (g : Ghosts A.Denot) (LS : Laws S) (LA : Laws A) → statement S A g LS LA
shares S A g LS LA =
    of_Lends (C.struct S A g) (C.the_codes S.Denot A.Denot S.coded A.coded (marker.the_row RawPtr).coded) (C.the_heap S A g) (C.the_lent S A g) (λ d _. nothing_shr_laws)
    (copy_shared (marker.the_field RawPtr) (field_copy (marker.the_type RawPtr) tt), tt) (λ M 𝓤 𝓛 d _. Lends-nothing 𝓛 (C.the_heap S A g d) (C.the_row S A g).lives)
