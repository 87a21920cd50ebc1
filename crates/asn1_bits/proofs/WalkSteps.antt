-- The names that the walk of `Turns::counting` cites.
pub use Rattle.std.proofs.Common.{List, [], ◌∷◌, refl}
pub use Rattle.std.proofs.raw_atomic.Walks.{proved}
pub use base.Fml.{ftrue}
pub use mir.Val.{Val, vstruct, vnil}
pub use types.Kit.{‵, raw, prop, Sq, ◌$◌, ◌∵◌, !, qed, done, drop, fjoin, feq_i, fpack, suffices}
pub use types.Run.{enter, no_more, returns}
pub use types.ByLocal.{alloc_all, pass_all, free_all, look_at, sets}
pub use types.Part.{agg}
pub use denote.Steps.{nothing}
pub use denote.Struct.Owning.{shape}
pub use denote.Struct.Struct.{within}
pub use denote.Triple.Entry.{on_entry}
pub use denote.Triple.Walked.{Stays, walk_of, says, ends_at}
