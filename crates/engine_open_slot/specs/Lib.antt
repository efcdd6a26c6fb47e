pub mod OpenSlot
