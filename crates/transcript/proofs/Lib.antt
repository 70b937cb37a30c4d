mod Filled
mod Replaced
mod Answered
mod Performed
mod Steps
mod Records
mod ReadOn
mod Opened
