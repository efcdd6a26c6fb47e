pub mod PacketAnswers
