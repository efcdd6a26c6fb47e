pub mod AcceptedLaws
pub mod ReceivedLaws
pub mod OrderLaws
pub mod ItselfLaws
pub mod GroupLaws
pub mod PacketLaws
pub mod RoomLaws
pub mod SumLaws
