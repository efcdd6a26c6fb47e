pub mod PacketLines
