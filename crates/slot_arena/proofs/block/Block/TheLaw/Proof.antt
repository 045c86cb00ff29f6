-- A `&` to a block is made where one to a slot is. Assumes `Logic`.
use mathlib.Core.List.{[], ◌++◌}
use base.Fml.{Incl-trans}
use contract.BorrowLft.{meet_⊑_left}
use denote.RattleType.{RattleType}
use denote.Param.Laws.{Laws}
use denote.Param.Shared.{copy_shared}
use denote.Struct.Field.{RawPtr-field}
use denote.Struct.Laws.{RawPtr-copy}
use denote.Struct.Lending.{of_Lends}
use Rattle.slot_arena.specs.contracts.block.Block as C
use Rattle.slot_arena.proofs.block.Block.TheLaw.Statement.{statement}
use Rattle.slot_arena.proofs.Sharing.{block_laws, Lends-block}

pub shares : (R : RattleType) (L : Laws R) → statement R L
shares R L =
    of_Lends (C.struct R) (C.the_codes R.Denot R.coded) (C.the_heap R) (C.the_lent R) (λ b _. block_laws R L.shr_laws b.at b.places) (copy_shared RawPtr-field RawPtr-copy, tt)
    (λ M 𝓤 𝓛 b _. Lends-block 𝓛 R L (C.the_row R).lives (Incl-trans (meet_⊑_left (R.lives ++ []) _) (meet_⊑_left R.lives [])) b.at b.places)
