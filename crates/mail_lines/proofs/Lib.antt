pub mod JoinedLines
pub mod MailTexts
pub mod LetteredLines
pub mod MailedBytes
pub mod WrittenMails
