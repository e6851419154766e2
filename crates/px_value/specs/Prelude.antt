-- The words that most contracts over values and columns use.
pub use Rattle.px_value.specs.Datum.{Datum, boolean, integer, text, bytes, list, Slots, no_slots, absent, present, Slot, slots, items}
pub use Rattle.px_value.specs.Kind.{Kind, booleans, int8s, int16s, int32s, int64s, uint8s, uint16s, uint32s, uint64s, strings, binaries, nulls, lists, kind_eq, is_list_kind, fits, slot_fits, slots_fit}
pub use Rattle.px_value.specs.Series.{Series, slot_at, IsColumn}
pub use Rattle.px_value.specs.Answer.{Refuses, AnswersBy, Answers}
pub use Rattle.px_value.specs.View.{datum_of, slot_of, slots_of}
pub use Rattle.px_value.specs.LentView.{datum_of_ref, slot_of_ref}
pub use Rattle.px_value.specs.KindView.{kind_of}
